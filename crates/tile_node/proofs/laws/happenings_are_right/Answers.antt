-- Each law is a lemma.
use Rattle.tile_node.proofs.OneLineHappens.{deliver_may, step_may, wants_one}
use Rattle.tile_node.proofs.laws.happenings_are_right.Goals as goal

pub returns-clause-step : goal.returns-clause-step
returns-clause-step c = step_may

pub returns-clause-delivery : goal.returns-clause-delivery
returns-clause-delivery c = deliver_may

pub returns-clause-one : goal.returns-clause-one
returns-clause-one c = wants_one
