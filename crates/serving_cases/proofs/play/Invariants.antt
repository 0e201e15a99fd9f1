use Rattle.control_server.specs.Control.{IsInOrder}
use Rattle.serving_cases.proofs.play.Given as goal

abbrev pub invariant-loop-event : goal.invariant-loop-event
invariant-loop-event l = IsInOrder l.world l.control
