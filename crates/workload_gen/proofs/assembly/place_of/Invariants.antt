use Rattle.std.proofs.Common.{◌≡◌, ◌≤◌, ◌+◌, ◌*◌, ◌%◌, drop}
use Rattle.workload_gen.specs.Assembly.{place_of}
use Rattle.workload_gen.proofs.assembly.place_of.Given as goal

-- the label is as far from here as it is from the beginning of the rest
abbrev pub invariant-loop-statement : goal.invariant-loop-statement
invariant-loop-statement l = record {
  rest : l.place + place_of l.label (drop l.statement-index l.listing) ≡ place_of l.label l.listing;
  near : l.place ≤ 4 * l.statement-index;
  aligned : l.place % 4 ≡ 0;
}
