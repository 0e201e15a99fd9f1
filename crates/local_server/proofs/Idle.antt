-- The idle tiles of a host before the program runs, one tile after another.
use Rattle.std.proofs.Common.{◌≡◌, ℕ, ◌+◌, ◌-◌, ◌<◌, ◌≤◌, Bool, true, false, List, [], ◌∷◌, ◌++◌, filter, if◌then◌else◌, refl, ap, sym, ◌∙◌, subst, ⊎_elim, zero, suc, arith}
use Rattle.std.proofs.lemmas.Bool.{cases_Bool}
use Rattle.std.proofs.lemmas.List.{append-nil}
use Rattle.std.proofs.lemmas.List.Elements.{filter-append}
use Rattle.std.specs.BTreeSet.{insert_key}
use Rattle.std.specs.Cmp.{nat_cmp_is}
use Rattle.std.specs.List.{range_with_len, AllByRecursion}
use Rattle.std.specs.Ordering.{nat_cmp}
use Rattle.std.specs.declared.cmp.Ordering.TheVariants.{Greater}

-- a tile above all others comes last
insert_last : (k : ℕ) (xs : List ℕ) → AllByRecursion (λ x. x < k) xs → insert_key nat_cmp xs k ≡ xs ++ k ∷ []
insert_last k [] h = refl
insert_last k (x ∷ xs) h =
    let above : nat_cmp k x ≡ Greater = sym (nat_cmp_is k x Greater h.0) in
    rw above (ap (λ ys. x ∷ ys) (insert_last k xs h.1))

-- those of a range are below its end
filter_below : (p : ℕ → Bool) (k x : ℕ) (xs : List ℕ) → x < k → AllByRecursion (λ y. y < k) (filter p xs) → AllByRecursion (λ y. y < k) (filter p (x ∷ xs))
filter_below p k x xs less h = ⊎_elim
    (λ (yes : p x ≡ true). rw yes (less, h))
    (λ (no : p x ≡ false). rw no h)
    (cases_Bool (p x))

range_below : (p : ℕ → Bool) (k n a : ℕ) → a + n ≤ k → AllByRecursion (λ y. y < k) (filter p (range_with_len a n))
range_below p k zero a h = tt
range_below p k (suc n) a h = filter_below p k a (range_with_len (a + 1) n) (omega arith) (range_below p k n (a + 1) (omega arith))

-- a range that is longer by one
range_push : (n a : ℕ) → range_with_len a (suc n) ≡ range_with_len a n ++ (a + n) ∷ []
range_push zero a =
    let same : a + 0 ≡ a = omega arith in
    rw same refl
range_push (suc n) a =
    let same : a + suc n ≡ a + 1 + n = omega arith in
    rw same (ap (λ xs. a ∷ xs) (range_push n (a + 1)))

-- the next tile, if it passes, comes last
pushed : (p : ℕ → Bool) (n : ℕ) (new : List ℕ) → new ≡ (if p (1 + n) then insert_key nat_cmp (filter p (range_with_len 1 n)) (1 + n) else filter p (range_with_len 1 n)) → new ≡ filter p (range_with_len 1 (suc n))
pushed p n new e =
    let both : filter p (range_with_len 1 (suc n)) ≡ filter p (range_with_len 1 n) ++ filter p ((1 + n) ∷ []) = ap (filter p) (range_push n 1) ∙ filter-append p (range_with_len 1 n) ((1 + n) ∷ []) in
    ⊎_elim
    (λ (yes : p (1 + n) ≡ true).
    let own : filter p ((1 + n) ∷ []) ≡ (1 + n) ∷ [] = rw yes refl in
    let put : new ≡ insert_key nat_cmp (filter p (range_with_len 1 n)) (1 + n) = rw yes at e in
    put ∙ insert_last (1 + n) (filter p (range_with_len 1 n)) (range_below p (1 + n) n 1 (omega arith)) ∙ sym (both ∙ ap (λ ts. filter p (range_with_len 1 n) ++ ts) own))
    (λ (no : p (1 + n) ≡ false).
    let other : filter p ((1 + n) ∷ []) ≡ [] = rw no refl in
    let same : new ≡ filter p (range_with_len 1 n) = rw no at e in
    same ∙ sym (append-nil (filter p (range_with_len 1 n))) ∙ sym (both ∙ ap (λ ts. filter p (range_with_len 1 n) ++ ts) other))
    (cases_Bool (p (1 + n)))

pub own_more : (p : ℕ → Bool) (tile : ℕ) (old new : List ℕ) → 1 ≤ tile → old ≡ filter p (range_with_len 1 (tile - 1)) → new ≡ (if p tile then insert_key nat_cmp old tile else old) → new ≡ filter p (range_with_len 1 (tile + 1 - 1))
own_more p tile old new some e n =
    let here : tile ≡ 1 + (tile - 1) = omega arith in
    let next : tile + 1 - 1 ≡ suc (tile - 1) = omega arith in
    let P : ℕ → Type 0 = λ t. new ≡ (if p t then insert_key nat_cmp old t else old) in
    let Q : List ℕ → Type 0 = λ ts. new ≡ (if p (1 + (tile - 1)) then insert_key nat_cmp ts (1 + (tile - 1)) else ts) in
    rw next (pushed p (tile - 1) new (subst Q e (subst P here n)))
