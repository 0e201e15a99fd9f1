use Rattle.std.proofs.Common.{◌≡◌, []}
use Rattle.node_machine.specs.Machine.{IsNode}
use Rattle.node_machine.specs.Inner.{StepsSoFar}
use Rattle.node_machine.proofs.nodes.Node.step_on.Given as goal

-- so far each step could be made and sent nothing, and the node can step
abbrev pub invariant-loop-done : goal.invariant-loop-done
invariant-loop-done l = record {
  so_far : StepsSoFar l.world l.fn.self l.self l.done;
  fits : IsNode l.world l.id l.self;
  none : l.out.items ≡ [];
}
