-- How many numbers of a range pass a test, and a range with one number more.
use Rattle.std.proofs.Common.{◌≡◌, ℕ, ◌+◌, Bool, cond, [], ◌∷◌, ◌++◌, map, count_by, ap, sym, ◌∙◌, arith}
use Rattle.std.specs.List.{range_with_len}
use Rattle.std.proofs.lemmas.List.{map-id}
use Rattle.std.proofs.lemmas.List.FromFn.{map-range_with_len_more}
use Rattle.std.proofs.lemmas.List.Sums.{fold_push}

range_more : (n : ℕ) → range_with_len 0 (n + 1) ≡ range_with_len 0 n ++ n ∷ []
range_more n =
    let same : (k : ℕ) → map (λ (x : ℕ). x) (range_with_len 0 k) ≡ range_with_len 0 k = λ k. map-id (range_with_len 0 k) in
    let last : 0 + n ≡ n = omega arith in
    sym (same (n + 1)) ∙ map-range_with_len_more (λ (x : ℕ). x) 0 n n last ∙ ap (λ xs. xs ++ n ∷ []) (same n)

pub count_by-range_more : (p : ℕ → Bool) (n : ℕ) → count_by p (range_with_len 0 (n + 1)) ≡ count_by p (range_with_len 0 n) + cond (p n) 1 0
count_by-range_more p n = ap (count_by p) (range_more n) ∙ fold_push (λ a x. a + cond (p x) 1 0) 0 (range_with_len 0 n) n

pub map-range_more : {X : Type 0} (f : ℕ → X) (n : ℕ) → map f (range_with_len 0 (n + 1)) ≡ map f (range_with_len 0 n) ++ f n ∷ []
map-range_more f n = map-range_with_len_more f 0 n n (omega arith)
