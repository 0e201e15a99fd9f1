use Rattle.std.proofs.Common.{◌≡◌, map}
use Rattle.std.specs.List.{range_with_len}
use Rattle.elf_image.specs.Header.{header_at}
use Rattle.elf_image.proofs.headers.read_headers.Given as goal

abbrev pub invariant-loop-number : goal.invariant-loop-number
invariant-loop-number l = l.table.items ≡ map (header_at l.bytes) (range_with_len 0 l.number)
