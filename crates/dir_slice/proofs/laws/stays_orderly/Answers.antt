use Rattle.dir_slice.proofs.Orderly.{stays_orderly}
use Rattle.dir_slice.proofs.laws.stays_orderly.Goals as goal

pub returns : goal.returns
returns c = stays_orderly
