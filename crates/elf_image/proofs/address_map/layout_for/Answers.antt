use Rattle.std.proofs.Common.{◌≤◌, ◌^◌, arith, refl}
use Rattle.elf_image.proofs.Sizes.{heap_bound, laid_out}
use Rattle.elf_image.proofs.address_map.layout_for.Goals as goal

pub overflow_add-heap_end : goal.overflow_add-heap_end
overflow_add-heap_end c = let heap : c.args.config.now.heap_bytes ≤ 2 ^ 26 = heap_bound c.args.config.now c.requires in omega arith

pub returns : goal.returns
returns c =
    laid_out (record { image = c.args.image.now; config = c.args.config.now }) _ c.heap_start_for-heap_start.ensures.program c.requires
    (rw c.heap_start_for-heap_start.ensures.value refl) c.heap_start_for-heap_start.ensures.low
