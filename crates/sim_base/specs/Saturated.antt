-- Numbers that stop at the greatest of 64 bits, as clocks, times, delays, limits and counts do. This
-- simulator's own: no run comes there, and no sum wraps.
use Rattle.std.specs.Prelude.{ℕ, ◌-◌, ◌^◌, min}

-- the number, or 2 ^ 64 - 1 where that is less
abbrev pub saturated : ℕ → ℕ
saturated n = min n (2 ^ 64 - 1)
