-- Each law is a lemma.
use Rattle.tile_node.proofs.OneLineDeliver.{deliver_shows}
use Rattle.tile_node.proofs.laws.deliveries_show_at_lines.Goals as goal

pub returns : goal.returns
returns c = deliver_shows
