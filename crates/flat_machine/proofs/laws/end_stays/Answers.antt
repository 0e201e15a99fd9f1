use Rattle.flat_machine.proofs.ActsLemmas.{end_stays}
use Rattle.flat_machine.proofs.laws.end_stays.Goals as goal

pub returns : goal.returns
returns c = end_stays
