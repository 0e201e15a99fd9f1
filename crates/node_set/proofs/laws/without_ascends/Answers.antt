use Rattle.node_set.proofs.Sets.{Ascends-without}
use Rattle.node_set.proofs.laws.without_ascends.Goals as goal

pub returns : goal.returns
returns c = Ascends-without
