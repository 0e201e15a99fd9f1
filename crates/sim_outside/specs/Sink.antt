-- What putting a piece of output answers, this simulator's own.
use Rattle.std.specs.Prelude.{◌≡◌, ◌==◌, ◌&&◌, ◌≤◌, Bool, true, ℕ, List, Option, Result, Ok, Err, length, nat_lt, take}
use Rattle.sim_outside.specs.declared.printing.Failed.{Failed}
use Rattle.sim_outside.specs.Told.{Took}

-- whether an answer for a piece is a fault: it failed, or took nothing of a piece that isn't empty
abbrev pub is_fault : Result ℕ Failed → List ℕ → Bool
is_fault (Ok k) piece = (k == 0) && nat_lt 0 (length piece)
is_fault (Err _) piece = true

-- an answer, with the piece and what is told of the bytes taken before and now
abbrev pub Put : Result ℕ Failed → List ℕ → Option (List ℕ) → Option (List ℕ) → Type 0
Put (Ok k) piece taken after = (k ≤ length piece) × Took taken after (take k piece)
Put (Err _) piece taken after = after ≡ taken
