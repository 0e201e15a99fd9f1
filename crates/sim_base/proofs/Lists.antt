-- Lists of what stands at each place.
use Rattle.std.proofs.Common.{◌≡◌, ℕ, ◌+◌, zero, suc, [], ◌∷◌, ◌++◌, map, ap, ◌∙◌, arith}
use Rattle.std.specs.List.{range_with_len}

-- a range with one number more
pub map-range-more : {X : Type 0} (f : ℕ → X) (from n : ℕ) → map f (range_with_len from (suc n)) ≡ map f (range_with_len from n) ++ f (from + n) ∷ []
map-range-more f from zero = ap (λ k. f k ∷ []) (omega arith)
map-range-more f from (suc n) = ap (λ xs. f from ∷ xs) (map-range-more f (from + 1) n ∙ ap (λ k. map f (range_with_len (from + 1) n) ++ f k ∷ []) (omega arith))
