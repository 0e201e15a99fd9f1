-- The answers of calls that stand for errors. The numbers of errors, and that an answer is the two's complement of one,
-- are Linux's.
use Rattle.std.specs.Prelude.{ℕ, ◌-◌, ◌^◌}

-- the answer that stands for an error
abbrev pub minus : ℕ → ℕ
minus error = 2 ^ 64 - error
