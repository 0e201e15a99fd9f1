use Rattle.std.proofs.Common.{◌≡◌, map, take}
use Rattle.elf_image.specs.Image.{frame}
use Rattle.elf_image.proofs.reading.frames_of.Given as goal

abbrev pub invariant-loop-header : goal.invariant-loop-header
invariant-loop-header l = l.frames.items ≡ map frame (take l.header-index l.loaded)
