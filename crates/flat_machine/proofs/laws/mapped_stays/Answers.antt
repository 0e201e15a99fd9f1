use Rattle.flat_machine.proofs.MappedLemmas.{mapped_stays}
use Rattle.flat_machine.proofs.laws.mapped_stays.Goals as goal

pub returns : goal.returns
returns c = mapped_stays
