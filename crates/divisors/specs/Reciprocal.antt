-- The reciprocal of a number as a multiple of 2^-64.
use Rattle.std.specs.Prelude.{ℕ, ◌≡◌, ◌<◌, ◌+◌, ◌-◌, ◌/◌, ◌%◌, ◌^◌}

-- rounded up, for a power of two to the next multiple; that of 1 is beyond 64 bits, and stands as 0
abbrev pub reciprocal_of : ℕ → ℕ
reciprocal_of n = ((2 ^ 64 - 1) / n + 1) % 2 ^ 64

-- a number to divide by, with its reciprocal
pub record IsDivisor (n reciprocal : ℕ) : Type 0 where
  pub some : 0 < n
  pub reciprocal_is : reciprocal ≡ reciprocal_of n
