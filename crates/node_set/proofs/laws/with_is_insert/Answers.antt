use Rattle.node_set.proofs.Sets.{with_node-insert_key}
use Rattle.node_set.proofs.laws.with_is_insert.Goals as goal

pub returns : goal.returns
returns c = with_node-insert_key
