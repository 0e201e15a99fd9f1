-- Lists by numbers from one on.
use Rattle.std.proofs.Common.{◌≡◌, ℕ, suc, ◌+◌, ◌<◌, Bool, List, [], ◌∷◌, length, map, refl, ap, ◌∙◌, arith}
use Rattle.std.specs.Prelude.{Some, slice_get, ◌||◌}
use Rattle.std.specs.List.{range_with_len, list_any}
use Rattle.std.proofs.lemmas.Option.{same_Some}

-- a list whose elements are a function's values at the numbers from `a` on
pub listed : {A : Type 0} (f : ℕ → A) (a : ℕ) (xs : List A) → ((k : ℕ) → k < length xs → slice_get xs k ≡ Some (f (a + k)))
    → xs ≡ map f (range_with_len a (length xs))
listed f a [] h = refl
listed f a (x ∷ xs) h =
    let first : a + 0 ≡ a = omega arith in
    let here : x ≡ f a = same_Some x (f a) (h 0 (omega arith) ∙ ap (λ n. Some (f n)) first) in
    let rest : xs ≡ map f (range_with_len (a + 1) (length xs)) =
    listed f (a + 1) xs (λ k low. h (suc k) (omega (arith, low)) ∙ ap (λ n. Some (f n)) (omega arith)) in
    ap (λ y. y ∷ xs) here ∙ ap (λ ys. f a ∷ ys) rest

-- some value of a list of values passes where some place does
pub any_map : {A B : Type 0} (p : B → Bool) (f : A → B) (xs : List A) → list_any p (map f xs) ≡ list_any (λ x. p (f x)) xs
any_map p f [] = refl
any_map p f (x ∷ xs) = ap (λ b. p (f x) || b) (any_map p f xs)
