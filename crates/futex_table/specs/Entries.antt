-- How a table from threads to addresses stands for the threads that are parked, in order of parking.
use Rattle.std.specs.Prelude.{ℕ, ◌-◌, ◌^◌, ◌<◌, List, map, nat_eq, All}
use Rattle.std.specs.List.{IsDistinct}
use Rattle.std.specs.Map.{keys_of}
use Rattle.serving.specs.declared.control_data.Waiter.{Waiter}

-- an entry stands for its thread, which is parked at the word at its address
abbrev pub waiter_of : ℕ × ℕ → Waiter
waiter_of entry = record { thread = entry.0; addr = entry.1 }

abbrev pub waiters_of : List (ℕ × ℕ) → List Waiter
waiters_of entries = map waiter_of entries

-- no thread is parked twice, and threads have numbers below 2 ^ 32 - 1
pub record AreOrderly (entries : List (ℕ × ℕ)) : Type 0 where
  pub distinct : IsDistinct nat_eq (keys_of entries)
  pub numbers : All (λ thread. thread < 2 ^ 32 - 1) (keys_of entries)
