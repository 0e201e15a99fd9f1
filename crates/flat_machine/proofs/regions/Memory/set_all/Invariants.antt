use Rattle.std.proofs.Common.{◌≡◌, ◌+◌, drop}
use Rattle.flat_machine.specs.Memory.{with_byte}
use Rattle.sim_base.specs.LittleEndian.{with_bytes}
use Rattle.flat_machine.proofs.regions.Memory.set_all.Given as goal

-- to write the bytes that are left is to have written all
abbrev pub invariant-loop-k : goal.invariant-loop-k
invariant-loop-k l = with_bytes with_byte l.self (l.address + l.k) (drop l.k l.bytes) ≡ with_bytes with_byte l.fn.self l.fn.address l.fn.bytes
