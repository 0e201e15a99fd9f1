use Rattle.std.proofs.Common.{◌≡◌, map, take}
use Rattle.flat_machine.specs.Inner.{segment_region}
use Rattle.flat_machine.proofs.regions.segment_regions.Given as goal

-- the regions so far are those of the segments so far
abbrev pub invariant-loop-segment : goal.invariant-loop-segment
invariant-loop-segment l = l.regions.items ≡ map segment_region (take l.segment-index l.segments)
