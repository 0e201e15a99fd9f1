-- Each event is made, or is the first that is refused.
use Rattle.std.proofs.Common.{◌≡◌, ◌∷◌, [], length, drop, Some, None, refl, sym, ◌∙◌, rules}
use Rattle.node_machine.specs.declared.cores.ApplyFault.TheVariants.{NotEnabled}
use Rattle.node_machine.specs.Core.{end_in}
use Rattle.seq_driver.proofs.DrawLemmas.{begins, refused_by}
use Rattle.seq_driver.proofs.ReplayLemmas.{is_next, replay_goes_on, first_refused, replayed, unfinished}
use Rattle.seq_driver.proofs.replays.replay.Goals as goal

pub loop-event-init : goal.loop-event-init
loop-event-init c = record {
  under = begins c.args.world.now c.in_ok-core.core c.in_ok-core.ensures.start c.in_ok-core.ensures.fits;
  left = sym c.events-left.ensures;
}

pub returns-in-Err-NotEnabled : goal.returns-in-Err-NotEnabled
returns-in-Err-NotEnabled c =
    let fault : c.in-Err-NotEnabled.field-0 ≡ NotEnabled = search rules in
    first_refused c.args.world.now c.loop-event.core c.args.journal c.loop-event.index c.loop-event.invariant.under
    c.in-Some.event c.next.new.self (c.loop-event.invariant.left ∙ c.in-Some.ensures)
    (refused_by c.args.world.now c.in-Some.event c.in-Err-NotEnabled.field-0 c.loop-event.core _ fault c.in-Err-NotEnabled.ensures.applies)

pub loop-event-preserved : goal.loop-event-preserved
loop-event-preserved c =
    let left : drop c.loop-event.index c.args.journal ≡ c.in-Some.event ∷ c.next.new.self = c.loop-event.invariant.left ∙ c.in-Some.ensures in
    record {
      under = replay_goes_on c.args.world.now c.loop-event.core c.args.journal c.loop-event.index c.loop-event.invariant.under
          c.in-Some.event c.next.new.self left
          c.apply.new.self c.in-Ok.field-0 c.in-Ok.ensures.fits c.in-Ok.ensures.applies.1 c.in-Ok.ensures.applies.2;
      left = (is_next c.args.journal c.loop-event.index c.in-Some.event c.next.new.self left).left;
    }

pub returns-in-Some-end : goal.returns-in-Some-end
returns-in-Some-end c =
    let ended : end_in c.loop-event.core ≡ Some c.in-Some-end.end = search rules in
    let none : c.loop-event.left ≡ [] = search rules in
    (replayed c.args.world.now c.loop-event.core c.args.journal c.loop-event.index c.loop-event.invariant.under (c.loop-event.invariant.left ∙ none) c.in-Some-end.end ended, refl)

pub returns-in-None : goal.returns-in-None
returns-in-None c =
    let no_end : end_in c.loop-event.core ≡ None = search rules in
    let none : c.loop-event.left ≡ [] = search rules in
    let count : length c.args.journal ≡ c.count-count.result = search rules in
    unfinished c.args.world.now c.loop-event.core c.args.journal c.loop-event.index c.loop-event.invariant.under (c.loop-event.invariant.left ∙ none) c.count-count.result count no_end
