use Rattle.std.proofs.Common.{◌≡◌}
use Rattle.row_tests.proofs.homes.goes_as.Given as goal

-- it is the same slice
abbrev pub invariant-loop-told : goal.invariant-loop-told
invariant-loop-told l = (l.dir.tile ≡ 3) × (l.dir.tiles ≡ 4)
