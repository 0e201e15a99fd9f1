-- The event is noted behind what was there, and behind the blocks it stands once.
use Rattle.std.proofs.Common.{◌≡◌, ◌+◌, ◌≤◌, ◌++◌, ◌∷◌, [], List, length, ap, sym, subst, ◌∙◌, arith, rules}
use Rattle.event_journal.specs.declared.events.Event.{Event}
use Rattle.event_journal.specs.Blocks.{IsJournal, covered_by, unrolled}
use Rattle.event_journal.proofs.Unrolling.{one_more, unrolled-append}
use Rattle.event_journal.proofs.journals.Journal.push.Goals as goal

pub invariant_of-self-2 : goal.invariant_of-self-2
invariant_of-self-2 c =
    let items : c.push.new.self.items ≡ c.self.inside.noted.items ++ c.args.event ∷ [] = search rules in
    let Fits : List Event → Type 0 = λ noted. IsJournal c.self.inside.blocks.items noted c.self.inside.covered (c.self.inside.count + 1) in
    subst Fits (sym items) (one_more c.self.inside.blocks.items c.self.inside.noted.items c.self.inside.covered c.self.inside.count c.args.event c.self.invariant)

pub returns-clause-pushed : goal.returns-clause-pushed
returns-clause-pushed c =
    let items : c.push.new.self.items ≡ c.self.inside.noted.items ++ c.args.event ∷ [] = search rules in
    let within : covered_by c.self.inside.blocks.items ≤ length c.self.inside.noted.items = omega (arith, c.self.invariant.covered_is, c.self.invariant.within) in
    ap (unrolled c.self.inside.blocks.items) items
    ∙ unrolled-append c.self.inside.blocks.items c.self.inside.noted.items (c.args.event ∷ []) within
    ∙ ap (λ events. events ++ c.args.event ∷ []) c.self.view_is
