use Rattle.std.proofs.Common.{◌≡◌, drop, ◌*◌}
use Rattle.std.specs.Prelude.{slice_get}
use Rattle.node_set.specs.Inner.{nodes_from}
use Rattle.node_set.proofs.set.NodeSet.get.Given as goal

abbrev pub invariant-loop-index : goal.invariant-loop-index
invariant-loop-index l = slice_get (nodes_from (64 * l.index) (drop l.index l.word-items)) l.left ≡ slice_get (nodes_from 0 l.word-items) l.place
