use Rattle.std.proofs.Common.{◌&&◌}
use Rattle.std.specs.Prelude.{nat_le, nat_lt}
use Rattle.dir_slice.specs.Inner.{PutsLines}
use Rattle.dir_slice.proofs.homes.Homes.put_segment.Given as goal

-- those from the first on, so far
abbrev pub invariant-loop-line : goal.invariant-loop-line
invariant-loop-line l = PutsLines l.world l.tile (λ q. nat_le l.first q && nat_lt q l.line) l.initial.self l.self
