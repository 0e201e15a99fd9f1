-- The steps are noted behind what was there.
use Rattle.std.proofs.Common.{◌≡◌, ◌++◌, replicate, ap, ◌∙◌, rules}
use Rattle.event_journal.specs.declared.events.Event.TheVariants.{Step}
use Rattle.seq_driver.proofs.LoneLemmas.{steps_are}
use Rattle.seq_driver.proofs.driver.note_steps.Goals as goal

pub returns-clause-journal : goal.returns-clause-journal
returns-clause-journal c =
    let pushed : c.push_times.new.self ≡ c.args.journal.now ++ replicate c.args.count (Step c.args.node) = search rules in
    pushed ∙ ap (λ events. c.args.journal.now ++ events) (steps_are c.args.node c.args.count)
