-- Each law is a lemma.
use Rattle.coherence_laws.proofs.Events.{values_change}
use Rattle.coherence_laws.proofs.Values.{accesses_use_values}
use Rattle.coherence_laws.proofs.laws.values_change_by_accesses.Goals as goal

pub returns-clause-changes : goal.returns-clause-changes
returns-clause-changes c = values_change

pub returns-clause-uses : goal.returns-clause-uses
returns-clause-uses c = accesses_use_values
