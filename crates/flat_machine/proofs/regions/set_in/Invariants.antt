use Rattle.std.proofs.Common.{◌≡◌, ◌++◌, take, drop}
use Rattle.flat_machine.specs.Inner.{with_byte_in}
use Rattle.flat_machine.proofs.regions.set_in.Given as goal

-- nothing is written yet, and the regions passed don't have the address
abbrev pub invariant-loop-region : goal.invariant-loop-region
invariant-loop-region l = record {
  same : l.region-items ≡ l.fn.regions.items;
  passed : take l.region-index l.region-items ++ with_byte_in (drop l.region-index l.region-items) l.address l.byte
      ≡ with_byte_in l.fn.regions.items l.fn.address l.fn.byte;
}
