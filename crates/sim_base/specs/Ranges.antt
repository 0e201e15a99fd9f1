-- Ranges of numbers, and whole pages of memory.
use Rattle.std.specs.Prelude.{ℕ, ◌%◌, ◌==◌, ◌&&◌, Bool, nat_le}

-- whether a number is at least the first and at most the last
abbrev pub is_within : ℕ → ℕ → ℕ → Bool
is_within first last n = nat_le first n && nat_le n last

-- whether a number of bytes is within bounds and fills whole pages of 4096
abbrev pub is_within_pages : ℕ → ℕ → ℕ → Bool
is_within_pages first last bytes = is_within first last bytes && bytes % 4096 == 0
