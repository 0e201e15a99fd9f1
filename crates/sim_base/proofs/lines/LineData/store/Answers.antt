-- The bytes that are written are the low ones of the number's eight.
use Rattle.std.proofs.Common.{ap, ◌∙◌, take, slice_set}
use Rattle.byteorder.proofs.Bytes.{take-bytes_low_first}
use Rattle.sim_base.specs.LittleEndian.{with_bytes}
use Rattle.sim_base.proofs.lines.LineData.store.Goals as goal

pub returns-in_default : goal.returns-in_default
returns-in_default c =
    c.set_all-in_default.ensures
    ∙ ap (with_bytes slice_set c.args.self.now.bytes c.args.offset)
    (ap (take c.args.size) c.write_u64.ensures ∙ take-bytes_low_first 0 8 c.args.size c.args.value c.requires.sized)
