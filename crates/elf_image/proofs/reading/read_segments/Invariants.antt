use Rattle.std.proofs.Common.{◌≡◌, map, take}
use Rattle.elf_image.specs.Image.{segment_of}
use Rattle.elf_image.proofs.reading.read_segments.Given as goal

abbrev pub invariant-loop-header : goal.invariant-loop-header
invariant-loop-header l = l.segments.items ≡ map (segment_of l.bytes) (take l.header-index l.loaded)
