-- Sets of nodes, tests of numbers, and what a home sends to one node.
use Rattle.std.proofs.Common.{◌≡◌, ℕ, ◌<◌, true, false, List, [], ◌∷◌, ◌==◌, if◌then◌else◌, refl, ◌∙◌, arith, inl, inr}
use Rattle.std.proofs.lemmas.Bool.Decides.{nat_tests}
use Rattle.std.proofs.lemmas.Bool.{cases_Bool}
use Rattle.std.specs.Prelude.{nat_lt, map}
use Rattle.std.specs.List.{AllByRecursion}
use Rattle.sim_base.specs.declared.lines.LineData.{LineData}
use Rattle.wire_msg.specs.Message.{Down, gives, drops, fetches}
use Rattle.dir_slice.specs.Line.{Sent, drop_copy, fetch, give}
use Rattle.node_set.specs.NodeSet.{Ascends, has_node, with_node, without}

pub equal : (x y : ℕ) → (x == y) ≡ true → x ≡ y
equal x y e = grind (arith, nat_tests)

pub itself : (x : ℕ) → (x == x) ≡ true
itself x = grind (arith, nat_tests)

pub turned : (x y : ℕ) → (x == y) ≡ (y == x)
turned x y = grind (arith, nat_tests)

pub same_test : (x y z : ℕ) → (x == y) ≡ true → (x == z) ≡ (y == z)
same_test x y z e = grind (arith, nat_tests)

has_same : (x y : ℕ) (xs : List ℕ) → (x == y) ≡ true → has_node y xs ≡ has_node x xs
has_same x y [] e = refl
has_same x y (z ∷ xs) e = let ih = has_same x y xs e in let t : (z == y) ≡ (z == x) = grind (arith, nat_tests) in cc

pub has_without : (r y : ℕ) (xs : List ℕ) → has_node y (without r xs) ≡ (if r == y then false else has_node y xs)
has_without r y [] = elim (cases_Bool (r == y)) [ inl t ↦ cc | inr t ↦ cc ]
has_without r y (x ∷ xs) =
    let ih = has_without r y xs in
    elim (cases_Bool (x == r)) [
      | inl t ↦ elim (cases_Bool (r == y)) [ inl u ↦ cc | inr u ↦ let e : (x == y) ≡ false = same_test x r y t ∙ u in cc ]
      | inr t ↦ elim (cases_Bool (x == y)) [ inl u ↦ let e : (r == y) ≡ false = grind (arith, nat_tests) in cc | inr u ↦ cc ]
    ]

pub has_with_node : (r y : ℕ) (xs : List ℕ) → has_node y (with_node r xs) ≡ (if r == y then true else has_node y xs)
has_with_node r y [] = elim (cases_Bool (r == y)) [ inl t ↦ cc | inr t ↦ cc ]
has_with_node r y (x ∷ xs) =
    let ih = has_with_node r y xs in
    elim (cases_Bool (nat_lt r x)) [
      | inl t ↦ elim (cases_Bool (r == y)) [ inl u ↦ cc | inr u ↦ cc ]
      | inr t ↦ elim (cases_Bool (r == x)) [
        | inl e ↦ elim (cases_Bool (r == y)) [ inl u ↦ let f : (x == y) ≡ true = grind (arith, nat_tests) in cc | inr u ↦ cc ]
        | inr e ↦ elim (cases_Bool (x == y)) [ inl u ↦ elim (cases_Bool (r == y)) [ inl z ↦ cc | inr z ↦ cc ] | inr u ↦ cc ]
      ]
    ]

-- a node below all others isn't among them
lacks_above : (x : ℕ) (xs : List ℕ) → AllByRecursion (λ y. x < y) xs → has_node x xs ≡ false
lacks_above x [] all = refl
lacks_above x (y ∷ xs) all =
    let below : x < y = all.0 in
    let t : (y == x) ≡ false = grind (arith, nat_tests) in let ih = lacks_above x xs all.1 in cc

-- what a home with this memory sends to one node

abbrev pub receiver : Sent → ℕ
receiver (drop_copy to) = to
receiver (fetch write to) = to
receiver (give write to) = to

abbrev pub said : LineData → Sent → Down
said memory (drop_copy to) = drops
said memory (fetch write to) = fetches write
said memory (give write to) = gives write memory

abbrev pub words : LineData → List Sent → ℕ → List Down
words memory [] y = []
words memory (s ∷ rest) y = if receiver s == y then said memory s ∷ words memory rest y else words memory rest y

-- one word to drop it for each node of the set
pub drops_out : (memory : LineData) (y : ℕ) (xs : List ℕ) → has_node y xs ≡ false → words memory (map drop_copy xs) y ≡ []
drops_out memory y [] h = refl
drops_out memory y (x ∷ xs) h = elim (cases_Bool (x == y)) [ inl t ↦ cc | inr t ↦ let i = drops_out memory y xs cc in cc ]

pub drops_in : (memory : LineData) (y : ℕ) (xs : List ℕ) → Ascends xs → has_node y xs ≡ true → words memory (map drop_copy xs) y ≡ drops ∷ []
drops_in memory y [] rises h = cc
drops_in memory y (x ∷ xs) rises h =
    elim (cases_Bool (x == y)) [
      | inl t ↦ let o : has_node y xs ≡ false = has_same x y xs t ∙ lacks_above x xs rises.0 in let i = drops_out memory y xs o in cc
      | inr t ↦ let i = drops_in memory y xs rises.1 cc in cc
    ]
