-- Each law is a lemma.
use Rattle.tile_node.proofs.OneLineHomes.{deliver_told}
use Rattle.tile_node.proofs.OneLinePlain.{step_told}
use Rattle.tile_node.proofs.laws.lines_are_told_to_homes.Goals as goal

pub returns-clause-step : goal.returns-clause-step
returns-clause-step c = step_told

pub returns-clause-delivery : goal.returns-clause-delivery
returns-clause-delivery c = deliver_told
