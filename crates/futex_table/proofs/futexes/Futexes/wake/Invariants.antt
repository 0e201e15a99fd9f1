use Rattle.std.proofs.Common.{◌≡◌, ◌≤◌, vec_len}
use Rattle.std.specs.Vec.{vec_capacity}
use Rattle.futex_table.proofs.Waking.{IsWaking}
use Rattle.futex_table.proofs.futexes.Futexes.wake.Given as goal

abbrev pub invariant-loop : goal.invariant-loop
invariant-loop l =
    IsWaking l.addr l.most l.counter l.initial.self l.self l.threads.items × (vec_len l.threads ≡ l.counter) × (l.most ≤ vec_capacity l.threads)
