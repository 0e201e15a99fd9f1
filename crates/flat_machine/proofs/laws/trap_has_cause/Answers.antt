use Rattle.flat_machine.proofs.TrapLemmas.{trap_has_cause}
use Rattle.flat_machine.proofs.laws.trap_has_cause.Goals as goal

pub returns : goal.returns
returns c = trap_has_cause
