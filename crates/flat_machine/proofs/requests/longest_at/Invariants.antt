use Rattle.std.proofs.Common.{◌≡◌, drop}
use Rattle.serving.specs.Wake.{longest_at}
use Rattle.flat_machine.proofs.requests.longest_at.Given as goal

-- none of those passed is parked at the address
abbrev pub invariant-loop-waiter : goal.invariant-loop-waiter
invariant-loop-waiter l = longest_at l.addr (drop l.waiter-index l.waiters) ≡ longest_at l.fn.addr l.fn.waiters
