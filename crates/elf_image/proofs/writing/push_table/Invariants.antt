use Rattle.std.proofs.Common.{◌≡◌, ◌+◌, ◌*◌, ◌++◌, length, take, drop, sum_by}
use Rattle.elf_image.specs.File.{table_bytes}
use Rattle.elf_image.proofs.writing.push_table.Given as goal

-- the headers so far and those of the rest are the table
abbrev pub invariant-loop-segment : goal.invariant-loop-segment
invariant-loop-segment l = record {
  place : l.at ≡ 64 + 56 * length l.segments + sum_by (λ s. length s.bytes) (take l.segment-index l.segments);
  written : l.file.items ++ table_bytes l.at (drop l.segment-index l.segments) ≡ l.fn.file.items ++ table_bytes (64 + 56 * length l.segments) l.segments;
}
