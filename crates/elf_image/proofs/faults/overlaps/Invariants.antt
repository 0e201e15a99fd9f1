use Rattle.std.proofs.Common.{◌≡◌, drop}
use Rattle.elf_image.specs.Image.{overlaps}
use Rattle.elf_image.proofs.faults.overlaps.Given as goal

-- none so far shares a byte with a later one
abbrev pub invariant-loop-place : goal.invariant-loop-place
invariant-loop-place l = overlaps l.segments ≡ overlaps (drop l.place l.segments)
