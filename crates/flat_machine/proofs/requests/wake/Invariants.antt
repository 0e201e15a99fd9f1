use Rattle.std.proofs.Common.{◌≡◌, ◌+◌, ◌-◌, length, map}
use Rattle.serving.specs.Wake.{woken, still_parked}
use Rattle.serving.specs.Serving.{woken_with}
use Rattle.flat_machine.specs.Serving.{woken_threads}
use Rattle.flat_machine.proofs.requests.wake.Given as goal

-- to wake those that are left is to have woken all
abbrev pub invariant-loop-done : goal.invariant-loop-done
invariant-loop-done l = record {
  threads : woken_threads (map (woken_with 0) (woken l.addr (l.count - l.done) l.waiters.items)) l.threads.items
      ≡ woken_threads (map (woken_with 0) (woken l.fn.addr l.fn.count l.fn.waiters.items)) l.fn.threads.items;
  waiters : still_parked l.addr (l.count - l.done) l.waiters.items ≡ still_parked l.fn.addr l.fn.count l.fn.waiters.items;
  count : l.done + length (woken l.addr (l.count - l.done) l.waiters.items) ≡ length (woken l.fn.addr l.fn.count l.fn.waiters.items);
}
