-- Sets of nodes as ascending lists: with a node more, and without one.
use Rattle.std.proofs.Common.{◌≡◌, ℕ, ◌+◌, ◌<◌, Bool, false, cond, List, [], ◌∷◌, length, drop, Some, refl, sym, ap, subst, ◌∙◌, inl, inr, arith}
use Rattle.std.specs.Prelude.{nat_lt, nat_eq, ◌==◌, not, filter, slice_get}
use Rattle.std.specs.List.{AllByRecursion}
use Rattle.std.specs.Ordering.{nat_cmp}
use Rattle.std.specs.BTreeSet.{insert_key}
use Rattle.std.proofs.lemmas.Bool.{cases_Bool, cases_eq, cases_order, lt-ltb, le-ltb, eq-eqb, ne_eqb}
use Rattle.std.proofs.lemmas.Bool.Decides.{nat_tests}
use Rattle.std.proofs.lemmas.Option.{none-some, same_Some}
use Rattle.node_set.specs.NodeSet.{Ascends, has_node, with_node, without}

-- where a node goes: before a larger one, nowhere beside itself, after a smaller one
pub with_node-below : (x y : ℕ) (ys : List ℕ) → x < y → with_node x (y ∷ ys) ≡ x ∷ y ∷ ys
with_node-below x y ys l = rw (lt-ltb x y l) refl

pub with_node-there : (x y : ℕ) (ys : List ℕ) → x ≡ y → with_node x (y ∷ ys) ≡ y ∷ ys
with_node-there x y ys e = rw (le-ltb x y (omega arith), eq-eqb x y e) refl

pub with_node-above : (x y : ℕ) (ys : List ℕ) → y < x → with_node x (y ∷ ys) ≡ y ∷ with_node x ys
with_node-above x y ys l = rw (le-ltb x y (omega arith), ne_eqb x y (λ e. absurd (omega arith))) refl

-- what std's sets of numbers make of it
pub with_node-insert_key : (x : ℕ) (ys : List ℕ) → with_node x ys ≡ insert_key nat_cmp ys x
with_node-insert_key x [] = refl
with_node-insert_key x (y ∷ ys) =
    elim (cases_Bool (nat_lt x y)) [
      | inl t ↦ rw t refl
      | inr t ↦ elim (cases_Bool (nat_eq x y)) [ inl e ↦ rw (t, e) refl | inr e ↦ rw (t, e) (ap (λ zs. y ∷ zs) (with_node-insert_key x ys)) ]
    ]

farther : (a b : ℕ) (xs : List ℕ) → a < b → AllByRecursion (λ y. b < y) xs → AllByRecursion (λ y. a < y) xs
farther a b [] l all = tt
farther a b (x ∷ xs) l all = (omega (arith, all.0), farther a b xs l all.1)

above-with_node : (a x : ℕ) (ys : List ℕ) → a < x → AllByRecursion (λ y. a < y) ys → AllByRecursion (λ y. a < y) (with_node x ys)
above-with_node a x [] l all = (l, tt)
above-with_node a x (y ∷ ys) l all =
    elim (cases_Bool (nat_lt x y)) [
      | inl t ↦ rw t (l, all)
      | inr t ↦ elim (cases_Bool (nat_eq x y)) [ inl e ↦ rw (t, e) all | inr e ↦ rw (t, e) (all.0, above-with_node a x ys l all.1) ]
    ]

pub Ascends-with_node : (x : ℕ) (ys : List ℕ) → Ascends ys → Ascends (with_node x ys)
Ascends-with_node x [] rises = (tt, tt)
Ascends-with_node x (y ∷ ys) rises =
    elim (cases_Bool (nat_lt x y)) [
      | inl t ↦ let l : x < y = grind (arith, nat_tests) in rw t ((l, farther x y ys l rises.0), rises)
      | inr t ↦ elim (cases_Bool (nat_eq x y)) [
        | inl e ↦ rw (t, e) rises
        | inr e ↦ let l : y < x = grind (arith, nat_tests) in rw (t, e) (above-with_node y x ys l rises.0, Ascends-with_node x ys rises.1)
      ]
    ]

pub above-filter : (p : ℕ → Bool) (a : ℕ) (ys : List ℕ) → AllByRecursion (λ y. a < y) ys → AllByRecursion (λ y. a < y) (filter p ys)
above-filter p a [] all = tt
above-filter p a (y ∷ ys) all =
    elim (cases_Bool (p y)) [ inl t ↦ rw t (all.0, above-filter p a ys all.1) | inr t ↦ rw t (above-filter p a ys all.1) ]

pub Ascends-filter : (p : ℕ → Bool) (ys : List ℕ) → Ascends ys → Ascends (filter p ys)
Ascends-filter p [] rises = tt
Ascends-filter p (y ∷ ys) rises =
    elim (cases_Bool (p y)) [ inl t ↦ rw t (above-filter p y ys rises.0, Ascends-filter p ys rises.1) | inr t ↦ rw t (Ascends-filter p ys rises.1) ]

pub Ascends-without : (x : ℕ) (ys : List ℕ) → Ascends ys → Ascends (without x ys)
Ascends-without x ys rises = Ascends-filter (λ y. not (y == x)) ys rises

-- an ascending list without its first number
all_above : (x : ℕ) (ys : List ℕ) → AllByRecursion (λ y. x < y) ys → without x ys ≡ ys
all_above x [] all = refl
all_above x (y ∷ ys) all = let apart : nat_eq y x ≡ false = ne_eqb y x (λ e. absurd (omega (arith, all.0))) in rw apart (ap (λ zs. y ∷ zs) (all_above x ys all.1))

pub without-first : (x : ℕ) (ys : List ℕ) → Ascends (x ∷ ys) → without x (x ∷ ys) ≡ ys
without-first x ys rises = rw (eq-eqb x x refl) (all_above x ys rises.0)

-- so it is without the number at its first place
pub without-at_first : (x : ℕ) (ys : List ℕ) → Ascends ys → Some x ≡ slice_get ys 0 → without x ys ≡ drop 1 ys
without-at_first x [] rises e = absurd (none-some x (sym e))
without-at_first x (y ∷ ys) rises e = let same : x ≡ y = same_Some x y e in ap (λ z. without z (y ∷ ys)) same ∙ without-first y ys rises

-- How many a set has, with a node more and without one

absent-below : (x : ℕ) (ys : List ℕ) → AllByRecursion (λ y. x < y) ys → has_node x ys ≡ false
absent-below x [] all = refl
absent-below x (y ∷ ys) all = rw (ne_eqb y x (λ e. absurd (omega (arith, all.0)))) (absent-below x ys all.1)

pub length-with_node : (x : ℕ) (ys : List ℕ) → Ascends ys → length (with_node x ys) ≡ length ys + cond (not (has_node x ys)) 1 0
length-with_node x [] rises = refl
length-with_node x (y ∷ ys) rises =
    elim (cases_order x y) [
      | inr (inl l) ↦ rw (with_node-below x y ys l, ne_eqb y x (λ e. absurd (omega arith)), absent-below x ys (farther x y ys l rises.0)) (omega arith)
      | inl e ↦ rw (with_node-there x y ys e, eq-eqb y x (sym e)) (omega arith)
      | inr (inr l) ↦ rw (with_node-above x y ys l, ne_eqb y x (λ e. absurd (omega arith))) (omega (arith, length-with_node x ys rises.1))
    ]

pub length-without : (x : ℕ) (ys : List ℕ) → Ascends ys → length (without x ys) + cond (has_node x ys) 1 0 ≡ length ys
length-without x [] rises = refl
length-without x (y ∷ ys) rises =
    elim (cases_eq y x) [
      | inl e ↦ rw (eq-eqb y x e, all_above x ys (subst (λ z. AllByRecursion (λ w. z < w) ys) e rises.0)) (omega arith)
      | inr ne ↦ rw (ne_eqb y x ne) (omega (arith, length-without x ys rises.1))
    ]
