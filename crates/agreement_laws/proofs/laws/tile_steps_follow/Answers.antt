use Rattle.agreement_laws.proofs.Following.{tile_steps_follow}
use Rattle.agreement_laws.proofs.laws.tile_steps_follow.Goals as goal

pub returns : goal.returns
returns c = tile_steps_follow
