use Rattle.std.proofs.Common.{arith}
use Rattle.std.proofs.lemmas.Grind.{common_steps}
use Rattle.std.proofs.lemmas.List.FromFn.{map-range_with_len_more}
use Rattle.elf_image.specs.Header.{header_at}
use Rattle.elf_image.proofs.headers.read_headers.Goals as goal

pub loop-number-preserved : goal.loop-number-preserved
loop-number-preserved c =
    let more = map-range_with_len_more (header_at c.args.bytes.now) 0 c.loop-number.number c.loop-number.number (omega arith) in
    grind (arith, common_steps, more)
