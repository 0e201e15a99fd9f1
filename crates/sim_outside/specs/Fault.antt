-- Counts of faults, this simulator's own: a count is an unsigned 64-bit number and stops at 2 ^ 64 - 1.
use Rattle.std.specs.Prelude.{◌≡◌, ℕ, ◌+◌, ◌-◌, ◌^◌, ◌≤◌, Bool, true, false, List, min}

-- a count that went up by one, or stands at its last value
abbrev pub raised : ℕ → ℕ
raised before = min (before + 1) (2 ^ 64 - 1)

-- the count rose, or stands at its last value
abbrev pub Rose : ℕ → ℕ → Type 0
Rose before now = raised before ≤ now

-- the count rose where there was a fault, and else is as it was
abbrev pub Counts : Bool → ℕ → ℕ → Type 0
Counts true before now = Rose before now
Counts false before now = now ≡ before

-- of the counts of names, that of this name went up by one, or stands at its last value; and no other went up by more
pub record RisesOnce (before now : List ℕ → ℕ) (name : List ℕ) : Type 0 where
  pub here : now name ≡ raised (before name)
  pub most : (other : List ℕ) → now other ≤ raised (before other)
