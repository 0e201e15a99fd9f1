-- A word that is a numeral is read as its number.
use Rattle.std.proofs.Common.{◌≡◌, ℕ, ◌^◌, ◌<◌, true, List, Some, Result, Ok, Err, refl, sym, ap, rules, arith, inl, inr, lt-ltb, [], ◌∷◌}
use Rattle.std.specs.Prelude.{nat_lt, length}
use Rattle.std.specs.List.{list_all}
use Rattle.std.specs.Char.{is_ascii_digit}
use Rattle.std.specs.Result.{result_ok, OkIff}
use Rattle.std.specs.Str.Parse.{ParsesUnsigned, digits_value}
use Rattle.std.proofs.lemmas.Bool.{cases_Bool, and_parts, ltb-true, true≢false}
use Rattle.std.proofs.lemmas.Str.Parse.{IsNumeralModel, numerals_by_value, parse_digits}
use Rattle.sim_config.specs.Words.{has_no_leading_zero, is_numeral, word_number}

own : IsNumeralModel (λ ds. list_all is_ascii_digit ds ≡ true) (digits_value 10)
own = numerals_by_value _ (search rules)

some_digit : (word : List ℕ) → has_no_leading_zero word ≡ true → 0 < length word
some_digit [] first = absurd (true≢false (sym first))
some_digit (byte ∷ word) first = omega arith

by_cases : {E : Type 0} (word : List ℕ) (r : Result ℕ E) → is_numeral word ≡ true
    → OkIff r ((0 < length word) × (digits_value 10 word < 2 ^ 64)) (digits_value 10 word) → result_ok r ≡ word_number word
by_cases word (Ok n) numeral told = rw (numeral, lt-ltb _ _ told.0.1) (ap Some told.1)
by_cases word (Err e) numeral told = elim (cases_Bool (nat_lt (digits_value 10 word) (2 ^ 64))) [
  | inl small ↦ absurd (told (some_digit word (and_parts _ _ numeral).1, ltb-true _ _ small))
  | inr large ↦ rw (numeral, large) refl
]

pub number-read : {E : Type 0} (word : List ℕ) (r : Result ℕ E) → is_numeral word ≡ true → ParsesUnsigned 64 10 word r → result_ok r ≡ word_number word
number-read word r numeral told = by_cases word r numeral (parse_digits own 64 word r told (and_parts _ _ numeral).0)
