use Rattle.node_set.proofs.Counts.{bits-zero}
use Rattle.node_set.proofs.set.NodeSet.new.Goals as goal

pub invariant_of-result : goal.invariant_of-result
invariant_of-result c = simp bits-zero

pub returns : goal.returns
returns c = simp bits-zero
