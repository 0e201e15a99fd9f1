use Rattle.std.proofs.Common.{◌≡◌, map, filter, take}
use Rattle.elf_image.specs.Image.{grants_execute}
use Rattle.elf_image.specs.Decoded.{decoded_of}
use Rattle.elf_image.proofs.decoded.decode_all.Given as goal

abbrev pub invariant-loop-segment : goal.invariant-loop-segment
invariant-loop-segment l = l.tables.items ≡ map decoded_of (filter grants_execute (take l.segment-index l.segments))
