use Rattle.std.proofs.Common.{◌≡◌, ◌+◌, ◌*◌, ◌<◌, ℕ, get_or, length}
use Rattle.elf_image.specs.Layout.{start_byte}
use Rattle.elf_image.proofs.address_map.World.initial_line.Given as goal

abbrev pub invariant-loop-place : goal.invariant-loop-place
invariant-loop-place l = record { whole : length l.bytes ≡ 64; filled : (k : ℕ) → k < l.place → get_or l.bytes k 0 ≡ start_byte l.self (l.line * 64 + k) }
