-- Each law is a lemma.
use Rattle.tile_node.proofs.OneLineStep.{step_shows}
use Rattle.tile_node.proofs.laws.steps_show_at_lines.Goals as goal

pub returns : goal.returns
returns c = step_shows
