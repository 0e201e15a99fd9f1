use Rattle.std.proofs.Common.{◌≡◌, ◌^◌, ◌-◌, min, sum_by, take}
use Rattle.elf_image.proofs.faults.total_size.Given as goal

abbrev pub invariant-loop-segment : goal.invariant-loop-segment
invariant-loop-segment l = l.total ≡ min (sum_by (λ s. s.memsz) (take l.segment-index l.segments)) (2 ^ 64 - 1)
