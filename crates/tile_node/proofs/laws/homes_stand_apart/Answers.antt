-- Each law is a lemma.
use Rattle.tile_node.proofs.OneLineHomes.{homes_hear}
use Rattle.tile_node.proofs.OneLineSpeaks.{homes_say}
use Rattle.tile_node.proofs.OneLinePlain.{deliver_leaves, step_leaves}
use Rattle.tile_node.proofs.laws.homes_stand_apart.Goals as goal

pub returns-clause-step : goal.returns-clause-step
returns-clause-step c = step_leaves

pub returns-clause-delivery : goal.returns-clause-delivery
returns-clause-delivery c = deliver_leaves

pub returns-clause-hears : goal.returns-clause-hears
returns-clause-hears c = homes_hear

pub returns-clause-speaks : goal.returns-clause-speaks
returns-clause-speaks c = homes_say
