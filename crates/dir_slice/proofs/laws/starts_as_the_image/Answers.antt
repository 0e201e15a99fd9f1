use Rattle.dir_slice.proofs.Unfiled.{starts_as_the_image}
use Rattle.dir_slice.proofs.laws.starts_as_the_image.Goals as goal

pub returns : goal.returns
returns c = starts_as_the_image
