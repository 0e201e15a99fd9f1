use Rattle.std.proofs.Common.{◌≡◌, ◌≤◌, All, length}
use Rattle.std.specs.Prelude.{fold, max}
use Rattle.mesh_model.specs.Mesh.{hops_between}
use Rattle.dir_slice.specs.Directory.{farthest}
use Rattle.dir_slice.proofs.states.farthest.Given as goal

-- the nodes that are left are of the machine, and the farthest of them and those before is that of all
abbrev pub invariant-loop-node : goal.invariant-loop-node
invariant-loop-node l = record {
  within : All (λ node. node ≤ l.config.tiles) l.left;
  most : fold (λ most x. max most (hops_between l.config l.tile x)) l.most l.left ≡ farthest l.config l.tile l.fn.nodes;
}

abbrev pub decreases-loop-node : goal.decreases-loop-node
decreases-loop-node l = length l.left
