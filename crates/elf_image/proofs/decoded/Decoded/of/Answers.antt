use Rattle.std.proofs.Common.{◌+◌, ◌*◌, arith}
use Rattle.std.proofs.lemmas.Grind.{common_steps}
use Rattle.std.proofs.lemmas.List.FromFn.{map-range_with_len_more}
use Rattle.elf_image.specs.Decoded.{row_at}
use Rattle.elf_image.proofs.decoded.Decoded.of.Goals as goal

pub loop-place-preserved : goal.loop-place-preserved
loop-place-preserved c =
    let more = map-range_with_len_more (λ k. row_at c.args.segment.now (c.next_multiple_of-first.result + 4 * k)) 0 c.loop-place.place c.loop-place.place (omega arith) in
    grind (arith, common_steps, more)
