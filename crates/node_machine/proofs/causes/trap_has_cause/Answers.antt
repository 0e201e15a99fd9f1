-- The law is a lemma.
use Rattle.node_machine.proofs.TrappingRuns as runs
use Rattle.node_machine.proofs.causes.trap_has_cause.Goals as goal

pub returns : goal.returns
returns c = runs.trap_has_cause
