use Rattle.std.specs.List.{range_with_len}
use Rattle.node_set.proofs.Ranges.{filter_without}
use Rattle.node_set.proofs.laws.one_fewer_passes.Goals as goal

pub returns : goal.returns
returns c = λ before after node count same fails. filter_without before after node same fails (range_with_len 0 count)
