use Rattle.std.proofs.Common.{◌≡◌, drop}
use Rattle.flat_machine.specs.Inner.{byte_of}
use Rattle.flat_machine.proofs.regions.byte_in.Given as goal

-- the regions passed don't have the address
abbrev pub invariant-loop-region : goal.invariant-loop-region
invariant-loop-region l = byte_of (drop l.region-index l.regions) l.address ≡ byte_of l.regions l.fn.address
