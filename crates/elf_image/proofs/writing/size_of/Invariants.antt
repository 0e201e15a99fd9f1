use Rattle.std.proofs.Common.{◌≡◌, ◌+◌, ◌*◌, ◌≤◌, ◌^◌, length, take, sum_by}
use Rattle.elf_image.proofs.writing.size_of.Given as goal

abbrev pub invariant-loop-segment : goal.invariant-loop-segment
invariant-loop-segment l = record {
  so_far : l.size ≡ 64 + 56 * length l.segments + sum_by (λ s. length s.bytes) (take l.segment-index l.segments);
  small : l.size ≤ 4096 + 2 ^ 32 * l.segment-index;
}
