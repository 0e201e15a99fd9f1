use Rattle.agreement_laws.proofs.DeliveriesFollow.{tile_deliveries_follow}
use Rattle.agreement_laws.proofs.laws.tile_deliveries_follow.Goals as goal

pub returns : goal.returns
returns c = tile_deliveries_follow
