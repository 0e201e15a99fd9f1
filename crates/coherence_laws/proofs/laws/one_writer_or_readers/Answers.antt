-- The law is a lemma.
use Rattle.coherence_laws.proofs.Events.{always_one_writer}
use Rattle.coherence_laws.proofs.laws.one_writer_or_readers.Goals as goal

pub returns : goal.returns
returns c = always_one_writer
