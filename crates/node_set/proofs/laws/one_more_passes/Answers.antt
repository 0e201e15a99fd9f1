use Rattle.std.proofs.Common.{arith}
use Rattle.node_set.proofs.Ranges.{filter_with}
use Rattle.node_set.proofs.laws.one_more_passes.Goals as goal

pub returns : goal.returns
returns c = λ before after node count same passes within. filter_with before after node same passes 0 count (omega arith) (omega arith)
