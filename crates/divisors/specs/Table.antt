-- Divisors in a table: at each place that of the number one above the place.
use Rattle.std.specs.Prelude.{ℕ, ◌≡◌, ◌+◌, List, slice_get, Some}

abbrev pub IsTable : List ℕ → Type 0
IsTable numbers = (place number : ℕ) → slice_get numbers place ≡ Some number → number ≡ place + 1
