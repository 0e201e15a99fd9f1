use Rattle.node_set.proofs.Sets.{Ascends-with_node}
use Rattle.node_set.proofs.laws.with_ascends.Goals as goal

pub returns : goal.returns
returns c = Ascends-with_node
