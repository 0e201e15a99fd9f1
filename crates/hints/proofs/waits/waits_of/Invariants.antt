-- The machine stays one of its world while a run's events are made again.
use Rattle.node_machine.specs.Core.{IsCore}
use Rattle.hints.proofs.waits.waits_of.Given as goal

-- the machine is one of the world
abbrev pub invariant-loop-event : goal.invariant-loop-event
invariant-loop-event l = IsCore l.world l.core
