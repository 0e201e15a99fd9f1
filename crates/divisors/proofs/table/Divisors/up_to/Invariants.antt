use Rattle.divisors.specs.Table.{IsTable}
use Rattle.std.specs.Prelude.{◌≡◌, length}
use Rattle.divisors.proofs.table.Divisors.up_to.Given as goal

-- so far the divisors of the first numbers
abbrev pub invariant-loop-place : goal.invariant-loop-place
invariant-loop-place l = (length l.table.items ≡ l.place) × IsTable l.table.items
