use Rattle.std.proofs.Common.{◌≡◌, ◌==◌, filter, take}
use Rattle.elf_image.proofs.headers.loads_of.Given as goal

abbrev pub invariant-loop-header : goal.invariant-loop-header
invariant-loop-header l = l.loaded.items ≡ filter (λ h. h.kind == 1) (take l.header-index l.table)
