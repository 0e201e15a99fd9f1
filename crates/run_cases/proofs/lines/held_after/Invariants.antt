use Rattle.node_machine.specs.Core.{IsCore}
use Rattle.run_cases.proofs.lines.held_after.Given as goal

-- it is this machine
abbrev pub invariant-loop-event : goal.invariant-loop-event
invariant-loop-event l = IsCore l.target l.core
