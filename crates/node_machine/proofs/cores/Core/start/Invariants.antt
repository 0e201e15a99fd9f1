use Rattle.std.proofs.Common.{◌≡◌, map, replicate}
use Rattle.std.specs.List.{range_with_len}
use Rattle.node_machine.specs.Machine.{start_node}
use Rattle.node_machine.specs.Inner.{AreNodes}
use Rattle.node_machine.proofs.cores.Core.start.Given as goal

-- the nodes so far are those of the start, and none has made an event
abbrev pub invariant-loop-id : goal.invariant-loop-id
invariant-loop-id l = record {
  nodes : l.nodes.items ≡ map (start_node l.world) (range_with_len 0 l.id);
  fits : AreNodes l.world l.nodes.items;
  made : l.made.items ≡ replicate l.id 0;
}
