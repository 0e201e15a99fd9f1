use Rattle.std.proofs.Common.{◌≡◌, ◌++◌, map, take, drop, vec_len}
use Rattle.flat_machine.specs.Reservation.{without_reservation}
use Rattle.flat_machine.proofs.reservations.end_all.Given as goal

-- the threads so far have lost what was written
abbrev pub invariant-loop-index : goal.invariant-loop-index
invariant-loop-index l = record {
  same : vec_len l.threads ≡ vec_len l.fn.threads;
  ended : l.threads.items ≡ map (without_reservation l.written) (take l.index l.fn.threads.items) ++ drop l.index l.fn.threads.items;
}
