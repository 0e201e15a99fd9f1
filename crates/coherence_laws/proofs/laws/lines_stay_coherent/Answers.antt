-- The law is a lemma.
use Rattle.coherence_laws.proofs.Events.{always_coherent}
use Rattle.coherence_laws.proofs.laws.lines_stay_coherent.Goals as goal

pub returns : goal.returns
returns c = always_coherent
