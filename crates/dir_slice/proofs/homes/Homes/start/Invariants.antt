use Rattle.std.proofs.Common.{take}
use Rattle.std.specs.List.{flat_map}
use Rattle.std.specs.FinMap.{empty}
use Rattle.dir_slice.specs.Inner.{has, PutsLines}
use Rattle.dir_slice.specs.Directory.{file_lines}
use Rattle.dir_slice.proofs.homes.Homes.start.Given as goal

-- those of the segments so far
abbrev pub invariant-loop-segment : goal.invariant-loop-segment
invariant-loop-segment l = PutsLines l.world l.tile (has (flat_map file_lines (take l.segment-index l.world.image.segments))) empty l.homes
