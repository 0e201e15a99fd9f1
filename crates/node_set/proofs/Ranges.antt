-- What passes a test among the numbers of a range, as a set.
use Rattle.std.proofs.Common.{◌≡◌, ℕ, zero, suc, ◌+◌, ◌<◌, ◌≤◌, Bool, true, false, cond, List, [], ◌∷◌, ◌++◌, refl, sym, ap, ◌∙◌, arith, inl, inr}
use Rattle.std.specs.Prelude.{◌==◌, filter, All}
use Rattle.std.specs.List.{range_with_len, AllByRecursion}
use Rattle.std.proofs.lemmas.Bool.{ne_eqb, eq-eqb, cases_lt, cases_Bool, eqb-true}
use Rattle.std.proofs.lemmas.List.Elements.{All-nil, All-cons}
use Rattle.node_set.specs.NodeSet.{Ascends, has_node, with_node, without}
use Rattle.node_set.proofs.Sets.{with_node-below, with_node-there, with_node-above, above-filter}

-- the numbers of a range are above each lower number, and ascend
pub range-above : (low a n : ℕ) → low < a → AllByRecursion (λ y. low < y) (range_with_len a n)
range-above low a zero l = tt
range-above low a (suc n) l = (l, range-above low (a + 1) n (omega arith))

pub Ascends-range : (a n : ℕ) → Ascends (range_with_len a n)
Ascends-range a zero = tt
Ascends-range a (suc n) = (range-above a (a + 1) n (omega arith), Ascends-range (a + 1) n)

-- and are below its end
pub range-below : (a n limit : ℕ) → a + n ≤ limit → All (λ y. y < limit) (range_with_len a n)
range-below a zero limit l = All-nil (λ y. y < limit)
range-below a (suc n) limit l = All-cons (λ y. y < limit) a (range_with_len (a + 1) n) (omega arith) (range-below (a + 1) n limit (omega arith))

-- a range and the one after it
pub range-append : (a m n : ℕ) → range_with_len a (m + n) ≡ range_with_len a m ++ range_with_len (a + m) n
range-append a zero n =
    let none : zero + n ≡ n = omega arith in
    let same : a + zero ≡ a = omega arith in
    rw (none, same) refl
range-append a (suc m) n =
    let long : suc m + n ≡ suc (m + n) = omega arith in
    let next : a + suc m ≡ a + 1 + m = omega arith in
    rw (long, next) (ap (λ ys. a ∷ ys) (range-append (a + 1) m n))

-- two tests that agree at the numbers of a range keep the same of them
pub filter_range : (p q : ℕ → Bool) (a n : ℕ) → ((i : ℕ) → a ≤ i → i < a + n → p i ≡ q i) → filter p (range_with_len a n) ≡ filter q (range_with_len a n)
filter_range p q a zero h = refl
filter_range p q a (suc n) h =
    let rest : filter p (range_with_len (a + 1) n) ≡ filter q (range_with_len (a + 1) n) =
    filter_range p q (a + 1) n (λ i low high. h i (omega (arith, low)) (omega (arith, high))) in
    ap (λ b. cond b (a ∷ filter p (range_with_len (a + 1) n)) (filter p (range_with_len (a + 1) n))) (h a (omega arith) (omega arith))
    ∙ ap (λ ys. cond (q a) (a ∷ ys) ys) rest

-- a number below all others goes to the front
before_all : (x : ℕ) (ys : List ℕ) → AllByRecursion (λ y. x < y) ys → with_node x ys ≡ x ∷ ys
before_all x [] all = refl
before_all x (y ∷ ys) all = with_node-below x y ys all.0

at_start : (x : ℕ) (ys : List ℕ) (b : Bool) → AllByRecursion (λ y. x < y) ys → with_node x (cond b (x ∷ ys) ys) ≡ x ∷ ys
at_start x ys true all = with_node-there x x ys refl
at_start x ys false all = before_all x ys all

past_start : (x y : ℕ) (ys : List ℕ) (b : Bool) → y < x → with_node x (cond b (y ∷ ys) ys) ≡ cond b (y ∷ with_node x ys) (with_node x ys)
past_start x y ys true l = with_node-above x y ys l
past_start x y ys false l = refl

-- one number more passes
pub filter_with : (p q : ℕ → Bool) (x : ℕ) → ((i : ℕ) → (i == x) ≡ false → q i ≡ p i) → q x ≡ true → (a n : ℕ) → a ≤ x → x < a + n → filter q (range_with_len a n) ≡ with_node x (filter p (range_with_len a n))
filter_with p q x same passes a zero l m = absurd (omega arith)
filter_with p q x same passes a (suc n) l m =
    let before : List ℕ = filter p (range_with_len (a + 1) n) in
    let after : List ℕ = filter q (range_with_len (a + 1) n) in
    elim (cases_lt a x) [
      | inl h ↦
          let again : after ≡ with_node x before = filter_with p q x same passes (a + 1) n (omega arith) (omega arith) in
          let here : q a ≡ p a = same a (ne_eqb a x (λ e. absurd (omega arith))) in
          ap (λ b. cond b (a ∷ after) after) here ∙ ap (λ ys. cond (p a) (a ∷ ys) ys) again ∙ sym (past_start x a before (p a) h)
      | inr h ↦
          let here : a ≡ x = omega arith in
          let later : after ≡ before = filter_range q p (a + 1) n (λ i low high. same i (ne_eqb i x (λ e. absurd (omega arith)))) in
          let starts : q a ≡ true = ap q here ∙ passes in
          let front : with_node a (cond (p a) (a ∷ before) before) ≡ a ∷ before = at_start a before (p a) (above-filter p a (range_with_len (a + 1) n) (range-above a (a + 1) n (omega arith))) in
          ap (λ b. cond b (a ∷ after) after) starts ∙ ap (λ ys. a ∷ ys) later ∙ sym front ∙ ap (λ y. with_node y (cond (p a) (a ∷ before) before)) here
    ]

without_that : (x y : ℕ) (ys : List ℕ) (b : Bool) → (y == x) ≡ true → without x (cond b (y ∷ ys) ys) ≡ without x ys
without_that x y ys true e = rw e refl
without_that x y ys false e = refl

without_another : (x y : ℕ) (ys : List ℕ) (b : Bool) → (y == x) ≡ false → without x (cond b (y ∷ ys) ys) ≡ cond b (y ∷ without x ys) (without x ys)
without_another x y ys true e = rw e refl
without_another x y ys false e = refl

-- one number fewer passes, of any list of numbers
pub filter_without : (p q : ℕ → Bool) (x : ℕ) → ((i : ℕ) → (i == x) ≡ false → q i ≡ p i) → q x ≡ false → (ys : List ℕ) → filter q ys ≡ without x (filter p ys)
filter_without p q x same fails [] = refl
filter_without p q x same fails (y ∷ ys) =
    let again = filter_without p q x same fails ys in
    elim (cases_Bool (y == x)) [
      | inl e ↦
          let here : q y ≡ false = ap q (eqb-true y x e) ∙ fails in
          ap (λ b. cond b (y ∷ filter q ys) (filter q ys)) here ∙ again ∙ sym (without_that x y (filter p ys) (p y) e)
      | inr e ↦
          ap (λ b. cond b (y ∷ filter q ys) (filter q ys)) (same y e) ∙ ap (λ zs. cond (p y) (y ∷ zs) zs) again ∙ sym (without_another x y (filter p ys) (p y) e)
    ]

-- a number of the range is in the set where it passes
absent : (p : ℕ → Bool) (x a n : ℕ) → x < a → has_node x (filter p (range_with_len a n)) ≡ false
absent p x a zero l = refl
absent p x a (suc n) l =
    let rest : has_node x (filter p (range_with_len (a + 1) n)) ≡ false = absent p x (a + 1) n (omega arith) in
    elim (cases_Bool (p a)) [ inl t ↦ rw (t, ne_eqb a x (λ e. absurd (omega arith))) rest | inr t ↦ rw t rest ]

pub has_node-range : (p : ℕ → Bool) (x a n : ℕ) → a ≤ x → x < a + n → has_node x (filter p (range_with_len a n)) ≡ p x
has_node-range p x a zero l m = absurd (omega arith)
has_node-range p x a (suc n) l m =
    elim (cases_lt a x) [
      | inl h ↦
          let rest : has_node x (filter p (range_with_len (a + 1) n)) ≡ p x = has_node-range p x (a + 1) n (omega arith) (omega arith) in
          elim (cases_Bool (p a)) [ inl t ↦ rw (t, ne_eqb a x (λ e. absurd (omega arith))) rest | inr t ↦ rw t rest ]
      | inr h ↦
          let here : a ≡ x = omega arith in
          let rest : has_node x (filter p (range_with_len (a + 1) n)) ≡ false = absent p x (a + 1) n (omega arith) in
          elim (cases_Bool (p a)) [
            | inl t ↦ rw (t, eq-eqb a x here) (sym t ∙ ap p here)
            | inr t ↦ rw t (rest ∙ sym t ∙ ap p here)
          ]
    ]
