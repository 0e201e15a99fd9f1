use Rattle.std.proofs.Common.{◌∙◌}
use Rattle.elf_image.proofs.Accepted.{each_fits, made_is}
use Rattle.elf_image.proofs.reading.read_image.Goals as goal

pub read_segments-requires : goal.read_segments-requires
read_segments-requires c =
    each_fits c.args.bytes.now c.as_slice.result.now c.in_ok-loaded.ensures.taken (c.as_slice.ensures.value ∙ c.in_ok-loaded.ensures.value)

pub new-requires : goal.new-requires
new-requires c =
    made_is c.args.bytes.now _ _ c.as_slice.result.now c.in_ok-loaded.ensures.taken c.entry_of.ensures c.in_ok-segments.ensures (c.as_slice.ensures.value ∙ c.in_ok-loaded.ensures.value)
