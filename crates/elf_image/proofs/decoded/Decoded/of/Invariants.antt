use Rattle.std.proofs.Common.{◌≡◌, ◌+◌, ◌*◌, map}
use Rattle.std.specs.List.{range_with_len}
use Rattle.elf_image.specs.Decoded.{row_at}
use Rattle.elf_image.proofs.decoded.Decoded.of.Given as goal

abbrev pub invariant-loop-place : goal.invariant-loop-place
invariant-loop-place l = l.rows.items ≡ map (λ k. row_at l.segment (l.first + 4 * k)) (range_with_len 0 l.place)
