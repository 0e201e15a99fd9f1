-- Where a text is cut, and names behind references.
use Rattle.std.proofs.Common.{◌≡◌, ℕ, ◌+◌, ◌-◌, ◌<◌, ◌≤◌, Bool, true, false, cond, List, [], ◌∷◌, length, take, drop, Option, Some, None, is_some, refl, sym, ap, ◌∙◌, arith, inl, inr, Bor, le-ltb, lt-ltb}
use Rattle.std.specs.Prelude.{◌||◌, nat_lt, option_map}
use Rattle.std.specs.List.{list_any, position, position_or_len, slice_index_or}
use Rattle.std.specs.Str.{bytes_eq}
use Rattle.std.proofs.lemmas.Bool.{cases_Bool, ltb-false, ltb-true}
use Rattle.std.proofs.lemmas.Bool.Decides.{nat_tests}
use Rattle.std.proofs.lemmas.List.{drop_more, length-drop, take_all}
use Rattle.sim_config.specs.Words.{CommandForm, Uses, has_name, is_equals_sign, name_and_value}
use Rattle.sim_config.specs.Inner.{first_use_of, is_of_name, lent_use, names_of, uses_after, uses_at, with_used}
use Rattle.sim_config.specs.declared.rules.Reading.{Reading}
use Rattle.sim_config.specs.declared.rules.Turn.{Turn}
use Rattle.sim_config.specs.declared.rules.Use.{Use}

-- some element passes where the first that does stands before the end
any-position : (p : ℕ → Bool) (xs : List ℕ) → list_any p xs ≡ nat_lt (position_or_len p xs) (length xs)
any-position p [] = refl
any-position p (x ∷ xs) = elim (cases_Bool (p x)) [
  | inl passes ↦ rw passes (grind (arith, nat_tests))
  | inr fails ↦ rw (fails, any-position p xs) (grind (arith, nat_tests))
]

cut_at : (text : List ℕ) (at : ℕ) → position_or_len is_equals_sign text ≡ at → at < length text
    → name_and_value text ≡ (take at text, Some (drop (at + 1) text))
cut_at text at is within = rw (any-position is_equals_sign text, is, lt-ltb at (length text) within) refl

cut_nowhere : (text : List ℕ) → length text ≤ position_or_len is_equals_sign text → name_and_value text ≡ (text, None)
cut_nowhere text beyond =
    rw (any-position is_equals_sign text, le-ltb (position_or_len is_equals_sign text) (length text) beyond)
    (ap (λ name. (name, None)) (take_all (position_or_len is_equals_sign text) text beyond))

-- the parts of a text, by the place that `position` tells
pub parts_at : (text : List ℕ) (at : ℕ) → Some at ≡ position is_equals_sign text
    → (take at text, Some (take (length text - (at + 1)) (drop (at + 1) text))) ≡ name_and_value text
parts_at text at found = elim (cases_Bool (nat_lt (position_or_len is_equals_sign text) (length text))) [
  | inl within ↦ (
      let here = found ∙ ap (λ b. cond b (Some (position_or_len is_equals_sign text)) None) within in
      let is : position_or_len is_equals_sign text ≡ at = cc in
      let small = ltb-true _ _ within in
      let rest = take_all (length text - (at + 1)) (drop (at + 1) text) (omega (arith, length-drop (at + 1) text)) in
      ap (λ end. (take at text, Some end)) rest ∙ sym (cut_at text at is (omega (arith, small, is))))
  | inr beyond ↦ (let none = found ∙ ap (λ b. cond b (Some (position_or_len is_equals_sign text)) None) beyond in cc)
]

pub parts_nowhere : (text : List ℕ) → None ≡ position is_equals_sign text → (text, None) ≡ name_and_value text
parts_nowhere text lost = elim (cases_Bool (nat_lt (position_or_len is_equals_sign text) (length text))) [
  | inl within ↦ (let some = lost ∙ ap (λ b. cond b (Some (position_or_len is_equals_sign text)) None) within in cc)
  | inr beyond ↦ sym (cut_nowhere text (ltb-false _ _ beyond))
]

-- a name among names that stand behind references
pub has_name-behind : (names : List (Bor (List ℕ))) (name : List ℕ) → list_any (λ other. bytes_eq other.now name) names ≡ has_name (names_of names) name
has_name-behind [] name = refl
has_name-behind (other ∷ names) name = ap (λ rest. bytes_eq other.now name || rest) (has_name-behind names name)

-- the words from a place on are the word there and those after it
later-take : (words : List (List ℕ)) (at : ℕ) → take (length words - (at + 1)) (drop (at + 1) words) ≡ drop (at + 1) words
later-take words at = take_all (length words - (at + 1)) (drop (at + 1) words) (omega (arith, length-drop (at + 1) words))

-- one more word: what it and the words after it use is what they use by what it does
pub uses_at-next : (form : CommandForm) (here : Reading) (turn : Option Turn) (words : List (List ℕ)) (at : ℕ) (word : List ℕ) → at < length words → word ≡ slice_index_or words at word
    → uses_at form here (word ∷ take (length words - (at + 1)) (drop (at + 1) words)) ≡ uses_after form turn (take (length words - (at + 1)) (drop (at + 1) words))
    → uses_at form here (drop at words) ≡ uses_after form turn (drop (at + 1) words)
uses_at-next form here turn words at word within is step =
    let rest = later-take words at in
    let whole : word ∷ drop (at + 1) words ≡ drop at words = ap (λ w. w ∷ drop (at + 1) words) is ∙ sym (drop_more words at word within) in
    ap (uses_at form here) (sym whole) ∙ ap (λ later. uses_at form here (word ∷ later)) (sym rest) ∙ step ∙ ap (uses_after form turn) rest

-- one more use before others is there where they are
pub with_used-some : (used : Option Use) (more : Option Uses) → is_some (with_used used more) ≡ is_some more
with_used-some None more = refl
with_used-some (Some used) None = refl
with_used-some (Some used) (Some uses) = refl

-- a use of the name is the first, and one of another name is passed over
pub first_use-here : (name : List ℕ) (used : Option Use) (more : Option Uses) → is_of_name name used ≡ true → is_some (with_used used more) ≡ true
    → option_map lent_use used ≡ first_use_of name (with_used used more)
first_use-here name None more is some = cc
first_use-here name (Some used) None is some = cc
first_use-here name (Some used) (Some uses) is some = rw is refl

pub first_use-later : (name : List ℕ) (used : Option Use) (more : Option Uses) → is_of_name name used ≡ false
    → first_use_of name (with_used used more) ≡ first_use_of name more
first_use-later name None more is = refl
first_use-later name (Some used) None is = refl
first_use-later name (Some used) (Some uses) is = rw is refl
