-- Each law is a lemma.
use Rattle.tile_node.proofs.OneLineHomes.{deliver_stays, start_empty}
use Rattle.tile_node.proofs.OneLinePlain.{step_stays}
use Rattle.tile_node.proofs.laws.tiles_stay_tiles.Goals as goal

pub returns-clause-start : goal.returns-clause-start
returns-clause-start c = start_empty

pub returns-clause-step : goal.returns-clause-step
returns-clause-step c = step_stays

pub returns-clause-delivery : goal.returns-clause-delivery
returns-clause-delivery c = deliver_stays
