use Rattle.std.proofs.Common.{◌≡◌, ◌^◌, ◌≤◌, take}
use Rattle.elf_image.specs.Layout.{last_end}
use Rattle.elf_image.proofs.address_map.last_end.Given as goal

abbrev pub invariant-loop-segment : goal.invariant-loop-segment
invariant-loop-segment l = (l.last ≡ last_end (take l.segment-index l.segments)) × (l.last ≤ 2 ^ 32)
