use Rattle.std.proofs.Common.{◌≡◌, ◌+◌, drop, slice_set}
use Rattle.sim_base.specs.LittleEndian.{with_bytes}
use Rattle.sim_base.proofs.lines.LineData.set_all.Given as goal

-- to write the bytes that are left is to have written all
abbrev pub invariant-loop-k : goal.invariant-loop-k
invariant-loop-k l = with_bytes slice_set l.self.bytes (l.offset + l.k) (drop l.k l.bytes) ≡ with_bytes slice_set l.fn.self.bytes l.fn.offset l.fn.bytes
