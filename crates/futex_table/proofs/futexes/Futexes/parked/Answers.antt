use Rattle.std.proofs.Common.{arith}
use Rattle.futex_table.proofs.Orderly.{few_entries}
use Rattle.futex_table.proofs.futexes.Futexes.parked.Goals as goal

pub overflow_cast-result : goal.overflow_cast-result
overflow_cast-result c = omega (arith, few_entries c.self.inside.addresses.entries c.self.invariant)
