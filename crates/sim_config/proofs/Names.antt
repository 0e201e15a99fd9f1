-- Names among names.
use Rattle.std.proofs.Common.{◌≡◌, ℕ, true, false, List, [], ◌∷◌, ◌++◌, refl, sym, ap, ◌∙◌, inl, inr}
use Rattle.std.specs.Str.{bytes_eq}
use Rattle.std.proofs.lemmas.Bool.{cases_Bool, and_parts, not-true, or_parts, true≢false}
use Rattle.std.proofs.lemmas.List.Folds.{list_any-append}
use Rattle.std.proofs.lemmas.Slice.Eq.{bytes_eq-Decides}
use Rattle.sim_config.specs.Words.{has_name}
use Rattle.sim_config.specs.Inner.{are_apart}

-- a name is itself
pub same_name : (name : List ℕ) → bytes_eq name name ≡ true
same_name name = (bytes_eq-Decides name name).1 refl

-- names that are equal are one
pub one_name : (a b : List ℕ) → bytes_eq a b ≡ true → a ≡ b
one_name a b same = (bytes_eq-Decides a b).0 same

-- a name that is among names where another is not is not that other
pub other_name : (names : List (List ℕ)) (a b : List ℕ) → has_name names a ≡ true → has_name names b ≡ false → bytes_eq a b ≡ false
other_name names a b has lacks = elim (cases_Bool (bytes_eq a b)) [
  | inl same ↦ absurd (true≢false (sym has ∙ (ap (has_name names) (one_name a b same) ∙ lacks)))
  | inr other ↦ other
]

pub other_name_too : (names : List (List ℕ)) (a b : List ℕ) → has_name names a ≡ false → has_name names b ≡ true → bytes_eq a b ≡ false
other_name_too names a b lacks has = elim (cases_Bool (bytes_eq a b)) [
  | inl same ↦ absurd (true≢false (sym has ∙ (ap (has_name names) (sym (one_name a b same)) ∙ lacks)))
  | inr other ↦ other
]

-- a name that is not among names is among no part of them
pub lacks_right : (names others : List (List ℕ)) (name : List ℕ) → has_name (names ++ others) name ≡ false → has_name others name ≡ false
lacks_right names others name lacks = (or_parts (has_name names name) (has_name others name) (sym (list_any-append (λ other. bytes_eq other name) names others) ∙ lacks)).1

-- names that stand apart from others have none of those
pub apart_from : (names others : List (List ℕ)) → are_apart names others ≡ true → (name : List ℕ) → has_name others name ≡ true → has_name names name ≡ false
apart_from [] others apart name has = refl
apart_from (first ∷ names) others apart name has =
    let parts = and_parts _ _ apart in
    let later = and_parts _ _ parts.1 in
    let not_first = other_name_too others first name (not-true _ later.0) has in
    rw not_first (apart_from names others later.1 name has)
