use Rattle.std.proofs.Common.{◌≡◌, sum, take}
use Rattle.sim_base.specs.Saturated.{saturated}
use Rattle.node_machine.proofs.cores.Core.count.Given as goal

-- the events of the nodes so far
abbrev pub invariant-loop-made : goal.invariant-loop-made
invariant-loop-made l = l.count ≡ saturated (sum (take l.made-index l.self.made))
