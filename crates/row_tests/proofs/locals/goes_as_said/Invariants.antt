use Rattle.std.proofs.Common.{◌≡◌}
use Rattle.row_tests.proofs.locals.goes_as_said.Given as goal

-- it is the server of the same host
abbrev pub invariant-loop-from : goal.invariant-loop-from
invariant-loop-from l = l.local.host ≡ l.initial.local.host
