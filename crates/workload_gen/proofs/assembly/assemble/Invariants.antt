use Rattle.std.proofs.Common.{◌≤◌, ◌*◌, drop, length}
use Rattle.workload_gen.proofs.Assembled.{IsPart}
use Rattle.workload_gen.proofs.assembly.assemble.Given as goal

abbrev pub invariant-loop-statement : goal.invariant-loop-statement
invariant-loop-statement l = record {
  part : IsPart l.listing (drop l.statement-index l.listing) l.code.items;
  small : length l.code.items ≤ 4 * l.statement-index;
}
