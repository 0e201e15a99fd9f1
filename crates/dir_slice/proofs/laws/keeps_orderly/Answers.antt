use Rattle.dir_slice.proofs.Orderly.{keeps_orderly}
use Rattle.dir_slice.proofs.laws.keeps_orderly.Goals as goal

pub returns : goal.returns
returns c = keeps_orderly
