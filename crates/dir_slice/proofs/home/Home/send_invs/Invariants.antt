use Rattle.std.proofs.Common.{◌≡◌, ◌++◌, map, length}
use Rattle.wire_msg.specs.declared.messages.Msg.TheVariants.{Inv}
use Rattle.dir_slice.specs.Line.{awaited}
use Rattle.dir_slice.proofs.home.Home.send_invs.Given as goal

-- with those that are left, all are asked
abbrev pub invariant-loop-node : goal.invariant-loop-node
invariant-loop-node l = l.out.items ++ map (λ node. (node, Inv l.line)) l.left ≡ l.fn.out.items ++ map (λ node. (node, Inv l.line)) (awaited l.self.state)

abbrev pub decreases-loop-node : goal.decreases-loop-node
decreases-loop-node l = length l.left
