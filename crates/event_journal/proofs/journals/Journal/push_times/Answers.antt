-- A few events are noted behind what was there; many are a block.
use Rattle.std.proofs.Common.{◌≡◌, ◌+◌, ◌-◌, ◌≤◌, ◌++◌, ◌∷◌, [], ℕ, List, length, take, replicate, refl, ap, sym, subst, ◌∙◌, arith, rules, length-append}
use Rattle.std.proofs.lemmas.List.{take_all}
use Rattle.event_journal.specs.declared.blocks.Block.{Block}
use Rattle.event_journal.specs.declared.events.Event.{Event}
use Rattle.event_journal.specs.Blocks.{IsJournal, covered_by, unrolled}
use Rattle.event_journal.proofs.Unrolling.{some_more, block_more, unrolled-append, unrolled-block}
use Rattle.event_journal.proofs.journals.Journal.push_times.Goals as goal

-- a vector filled up with an event has what it had, and then so many of it
resized : (noted events : List Event) (len times : ℕ) (event : Event) → len ≡ length noted
    → events ≡ take (len + times) noted ++ replicate (len + times - len) event → events ≡ noted ++ replicate times event
resized noted events len times event is_len items =
    let more : len + times - len ≡ times = omega arith in
    items ∙ ap (λ xs. xs ++ replicate (len + times - len) event) (take_all (len + times) noted (omega (arith, is_len)))
    ∙ ap (λ n. noted ++ replicate n event) more

pub invariant_of-self-then-times-lt-LEAST_TIMES : goal.invariant_of-self-then-times-lt-LEAST_TIMES
invariant_of-self-then-times-lt-LEAST_TIMES c =
    let is_len : c.len.result ≡ length c.self.inside.noted.items = search rules in
    let told : c.resize.new.self.items ≡ take (c.len.result + c.args.times) c.self.inside.noted.items ++ replicate (c.len.result + c.args.times - c.len.result) c.args.event = search rules in
    let items : c.resize.new.self.items ≡ c.self.inside.noted.items ++ replicate c.args.times c.args.event =
    resized c.self.inside.noted.items c.resize.new.self.items c.len.result c.args.times c.args.event is_len told in
    let Keeps : List Event → ℕ → Type 0 = λ noted more. IsJournal c.self.inside.blocks.items noted c.self.inside.covered (c.self.inside.count + more) in
    let fits : Keeps (c.self.inside.noted.items ++ replicate c.args.times c.args.event) c.args.times =
    some_more c.self.inside.blocks.items c.self.inside.noted.items c.self.inside.covered c.self.inside.count c.args.event c.args.times c.self.invariant in
    subst (λ noted. Keeps noted c.from-then-times-lt-LEAST_TIMES.result) (sym items)
    (subst (λ more. Keeps (c.self.inside.noted.items ++ replicate c.args.times c.args.event) more) (sym c.from-then-times-lt-LEAST_TIMES.ensures) fits)

pub returns-then-times-lt-LEAST_TIMES-clause-pushed :
    goal.returns-then-times-lt-LEAST_TIMES-clause-pushed
returns-then-times-lt-LEAST_TIMES-clause-pushed c =
    let is_len : c.len.result ≡ length c.self.inside.noted.items = search rules in
    let told : c.resize.new.self.items ≡ take (c.len.result + c.args.times) c.self.inside.noted.items ++ replicate (c.len.result + c.args.times - c.len.result) c.args.event = search rules in
    let items : c.resize.new.self.items ≡ c.self.inside.noted.items ++ replicate c.args.times c.args.event =
    resized c.self.inside.noted.items c.resize.new.self.items c.len.result c.args.times c.args.event is_len told in
    let within : covered_by c.self.inside.blocks.items ≤ length c.self.inside.noted.items = omega (arith, c.self.invariant.covered_is, c.self.invariant.within) in
    ap (unrolled c.self.inside.blocks.items) items
    ∙ unrolled-append c.self.inside.blocks.items c.self.inside.noted.items (replicate c.args.times c.args.event) within
    ∙ ap (λ events. events ++ replicate c.args.times c.args.event) c.self.view_is

pub invariant_of-self-2 : goal.invariant_of-self-2
invariant_of-self-2 c =
    let items : c.push.new.self.items ≡ c.self.inside.noted.items ++ c.args.event ∷ [] = search rules in
    let block : Block = record { once = c.len-2.result - 1 - c.self.inside.covered; size = 1; times = c.args.times } in
    let blocks : c.push-2.new.self.items ≡ c.self.inside.blocks.items ++ block ∷ [] = search rules in
    let all : c.len-self-inside.result ≡ length c.push.new.self.items = search rules in
    let once : c.len-2.result - 1 - c.self.inside.covered + c.self.inside.covered ≡ length c.self.inside.noted.items =
    omega (arith, c.len-2.ensures, ap length items, length-append c.self.inside.noted.items (c.args.event ∷ []), c.self.invariant.within) in
    let kept : IsJournal (c.self.inside.blocks.items ++ block ∷ []) (c.self.inside.noted.items ++ c.args.event ∷ []) (length (c.self.inside.noted.items ++ c.args.event ∷ [])) (c.self.inside.count + c.args.times) =
    block_more c.self.inside.blocks.items c.self.inside.noted.items c.self.inside.covered c.self.inside.count c.args.event block c.self.invariant once refl (omega (arith, c.if-times-lt-LEAST_TIMES.false)) in
    let size : length (c.self.inside.noted.items ++ c.args.event ∷ []) ≡ c.len-self-inside.result = sym (all ∙ ap length items) in
    subst (λ blocks. IsJournal blocks c.push.new.self.items c.len-self-inside.result (c.self.inside.count + c.from-2.result)) (sym blocks)
    (subst (λ noted. IsJournal (c.self.inside.blocks.items ++ block ∷ []) noted c.len-self-inside.result (c.self.inside.count + c.from-2.result)) (sym items)
    (subst (λ covered. IsJournal (c.self.inside.blocks.items ++ block ∷ []) (c.self.inside.noted.items ++ c.args.event ∷ []) covered (c.self.inside.count + c.from-2.result)) size
    (subst (λ times. IsJournal (c.self.inside.blocks.items ++ block ∷ []) (c.self.inside.noted.items ++ c.args.event ∷ []) (length (c.self.inside.noted.items ++ c.args.event ∷ [])) (c.self.inside.count + times)) (sym c.from-2.ensures) kept)))

pub returns-clause-pushed : goal.returns-clause-pushed
returns-clause-pushed c =
    let items : c.push.new.self.items ≡ c.self.inside.noted.items ++ c.args.event ∷ [] = search rules in
    let block : Block = record { once = c.len-2.result - 1 - c.self.inside.covered; size = 1; times = c.args.times } in
    let blocks : c.push-2.new.self.items ≡ c.self.inside.blocks.items ++ block ∷ [] = search rules in
    let within : covered_by c.self.inside.blocks.items ≤ length c.self.inside.noted.items = omega (arith, c.self.invariant.covered_is, c.self.invariant.within) in
    let once : c.len-2.result - 1 - c.self.inside.covered + covered_by c.self.inside.blocks.items ≡ length c.self.inside.noted.items =
    omega (arith, c.len-2.ensures, ap length items, length-append c.self.inside.noted.items (c.args.event ∷ []), c.self.invariant.within, c.self.invariant.covered_is) in
    ap (λ blocks. unrolled blocks c.push.new.self.items) blocks
    ∙ ap (unrolled (c.self.inside.blocks.items ++ block ∷ [])) items
    ∙ unrolled-block c.self.inside.blocks.items c.self.inside.noted.items c.args.event block within once refl
    ∙ ap (λ events. events ++ replicate c.args.times c.args.event) c.self.view_is
