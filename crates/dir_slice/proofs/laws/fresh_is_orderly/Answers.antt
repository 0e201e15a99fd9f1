use Rattle.dir_slice.proofs.Orderly.{fresh_is_orderly}
use Rattle.dir_slice.proofs.laws.fresh_is_orderly.Goals as goal

pub returns : goal.returns
returns c = fresh_is_orderly
