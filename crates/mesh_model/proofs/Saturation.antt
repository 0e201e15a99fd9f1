-- Numbers that stop at a most, `most`: where the parts of a sum stopped there and the sum does too, it is the
-- sum of the parts themselves, stopped once.
use Rattle.std.proofs.Common.{◌≡◌, ℕ, zero, suc, ◌*◌, ◌+◌, ◌≤◌, min, sym, ap, ◌∙◌, inl, inr, arith}
use Rattle.std.proofs.Math.Nat.{min-eq_left, min-eq_right}
use Rattle.std.proofs.lemmas.Bool.{cases_lt}

-- past the most, a multiple is past the most
past : (n k most : ℕ) → most ≤ n → 1 ≤ k → most ≤ n * k
past n k most h l = grind arith

product_of_stopped : (n k most : ℕ) → min (min n most * k) most ≡ min (n * k) most
product_of_stopped n zero most = omega arith
product_of_stopped n (suc k) most =
    elim (cases_lt n most) [
      | inl l ↦ ap (λ m. min (m * suc k) most) (min-eq_left {n = n} {m = most} (omega arith))
      | inr g ↦
          ap (λ m. min (m * suc k) most) (min-eq_right g)
          ∙ min-eq_right (past most (suc k) most (omega arith) (omega arith))
          ∙ sym (min-eq_right (past n (suc k) most g (omega arith)))
    ]

-- a number that stopped, a product with it that stopped, and a sum with that
pub stopped_once : (a n k most number product sum : ℕ) → number ≡ min n most → product ≡ min (number * k) most → sum ≡ min (a + product) most → sum ≡ min (a + n * k) most
stopped_once a n k most number product sum en ep es =
    let p : product ≡ min (n * k) most = ep ∙ ap (λ m. min (m * k) most) en ∙ product_of_stopped n k most in
    omega arith
