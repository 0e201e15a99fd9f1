use Rattle.std.proofs.Common.{◌≡◌, ◌<◌, ℕ, false}
use Rattle.control_server.specs.Control.{is_active}
use Rattle.control_server.proofs.control.Control.are_all_parked.Given as goal

abbrev pub invariant-loop-thread : goal.invariant-loop-thread
invariant-loop-thread l = (k : ℕ) → k < l.thread → is_active l.self.control k ≡ false
