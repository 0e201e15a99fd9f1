-- Putting a whole text on a stream, piece by piece.
use Rattle.std.specs.Prelude.{◌≡◌, ℕ, List, take, Option, Result, Ok, Err}
use Rattle.sim_outside.specs.Fault.{Rose}
use Rattle.sim_outside.specs.Told.{Took}
use Rattle.sim_outside.specs.declared.printing.Failed.{Failed}

-- the stream took all of the text without a fault, or the front of it and had one more fault
abbrev pub PutsAll : Result (Unit {0}) Failed → List ℕ → Option (List ℕ) → Option (List ℕ) → ℕ → ℕ → Type 0
PutsAll (Ok done) text taken after before now = Took taken after text × (now ≡ before)
PutsAll (Err failed) text taken after before now = ((len : ℕ) × Took taken after (take len text)) × Rose before now
