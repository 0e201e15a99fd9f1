use Rattle.std.proofs.Common.{◌≡◌, ◌++◌, map}
use Rattle.std.specs.List.{range_with_len}
use Rattle.flat_machine.specs.Inner.{stack_region}
use Rattle.flat_machine.proofs.regions.add_stacks.Given as goal

abbrev pub invariant-loop-tile : goal.invariant-loop-tile
invariant-loop-tile l = l.regions.items ≡ l.fn.regions.items ++ map (stack_region l.world) (range_with_len 0 l.tile)
