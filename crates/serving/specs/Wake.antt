-- Which of the threads that are parked at a word a wake wakes. This simulator's own, after Linux's futexes: the ones
-- that are parked longest.
use Rattle.std.specs.Prelude.{ℕ, ◌==◌, not, Bool, List, [], ◌∷◌, find, filter, Option, Some, None, zero, suc}
use Rattle.std.specs.Option.{option_map}
use Rattle.serving.specs.declared.control_data.Waiter.{Waiter}

-- the thread that is parked longest at an address, if one is
abbrev pub waits_at : ℕ → Waiter → Bool
waits_at addr w = w.addr == addr

abbrev pub longest_at : ℕ → List Waiter → Option ℕ
longest_at addr waiters = option_map (λ w. w.thread) (find (waits_at addr) waiters)

-- those that are parked still once a thread is woken, if one is
abbrev pub without_thread : Option ℕ → List Waiter → List Waiter
without_thread None waiters = waiters
without_thread (Some thread) waiters = filter (λ w. not (w.thread == thread)) waiters

abbrev pub listed : Option ℕ → List ℕ → List ℕ
listed None threads = threads
listed (Some thread) threads = thread ∷ threads

-- the threads that a wake of at most so many at an address wakes, in order of parking; and those parked still: again
-- and again the longest parked one is woken
unfoldable pub woken : ℕ → ℕ → List Waiter → List ℕ
woken addr zero waiters = []
woken addr (suc count) waiters = listed (longest_at addr waiters) (woken addr count (without_thread (longest_at addr waiters) waiters))

unfoldable pub still_parked : ℕ → ℕ → List Waiter → List Waiter
still_parked addr zero waiters = waiters
still_parked addr (suc count) waiters = still_parked addr count (without_thread (longest_at addr waiters) waiters)
