-- The rules of the words of the command line: plain words, options with a value, flags, numbers. This simulator's own.
use Rattle.std.specs.Prelude.{ℕ, ◌^◌, ◌==◌, ◌&&◌, ◌||◌, Bool, false, not, nat_lt, List, [], ◌∷◌, length, find, if◌then◌else◌, Option, Some, None, is_some, option_map, option_and_then}
use Rattle.std.specs.Char.{is_ascii_digit}
use Rattle.std.specs.List.{list_any, list_all, before_first, after_first}
use Rattle.std.specs.Option.{option_map_or}
use Rattle.std.specs.Str.{bytes_eq}
use Rattle.std.specs.Str.Parse.{digits_value}

-- the names of a command's positionals, in order; of its options, each of which has a value; and of its flags, which have none
pub record CommandForm : Type 0 where
  pub positionals : List (List ℕ)
  pub options : List (List ℕ)
  pub flags : List (List ℕ)

-- Words by themselves

-- a word that may be a positional, or the value of the option before it: it isn't empty and doesn't begin with a dash (45)
abbrev pub is_plain : List ℕ → Bool
is_plain [] = false
is_plain (first ∷ rest) = not (first == 45)

abbrev pub is_equals_sign : ℕ → Bool
is_equals_sign byte = byte == 61

-- what stands before the first `=`, and what follows it if there is one
abbrev pub name_and_value : List ℕ → List ℕ × Option (List ℕ)
name_and_value text = (
  before_first is_equals_sign text,
  if list_any is_equals_sign text then Some (after_first is_equals_sign text) else None,
)

-- the name in a word `--name`, or the name and the value in `--name=value`
abbrev pub dashed_name : List ℕ → Option (List ℕ × Option (List ℕ))
dashed_name (first ∷ (second ∷ text)) = if first == 45 && second == 45 then Some (name_and_value text) else None
dashed_name _ = None

-- the word uses the option or the flag of this name
abbrev pub is_use_of : List ℕ → List ℕ → Bool
is_use_of name word = option_map_or (λ dashed. bytes_eq dashed.0 name) (dashed_name word) false

-- one of the names is this one
abbrev pub has_name : List (List ℕ) → List ℕ → Bool
has_name names name = list_any (λ other. bytes_eq other name) names

-- The words after a command, in order

-- what words use: a positional or an option by its name and its value, and a flag by its name alone
abbrev pub Uses : Type 0
Uses = List (List ℕ × Option (List ℕ))

-- one more use, before those of the words that follow it
abbrev pub with_use : List ℕ → Option (List ℕ) → Option Uses → Option Uses
with_use name value more = option_map (λ uses. (name, value) ∷ uses) more

-- a word that is the next positional, where one is still to come
abbrev pub next_positional : List (List ℕ) → List ℕ → (List (List ℕ) → Option Uses) → Option Uses
next_positional [] word more = None
next_positional (name ∷ left) word more = with_use name (Some word) (more left)

-- an option with a value in its word, which isn't empty, or one that awaits the next word
abbrev pub with_option : List ℕ → Option (List ℕ) → (Option (List ℕ) → Option Uses) → Option Uses
with_option name None more = more (Some name)
with_option name (Some []) more = None
with_option name (Some (first ∷ rest)) more = with_use name (Some (first ∷ rest)) (more None)

-- a flag, without a value
abbrev pub with_flag : List ℕ → Option (List ℕ) → Option Uses → Option Uses
with_flag name None more = with_use name None more
with_flag name (Some value) more = None

-- an option or a flag of the form
abbrev pub with_dashed : CommandForm → List ℕ → Option (List ℕ) → (Option (List ℕ) → Option Uses) → Option Uses
with_dashed form name value more =
    if has_name form.options name then with_option name value more
    else (if has_name form.flags name then with_flag name value (more None) else None)

-- a word `--name` or `--name=value`, where no later word uses the name again
abbrev pub next_dashed : CommandForm → List (List ℕ) → Option (List ℕ × Option (List ℕ)) → (Option (List ℕ) → Option Uses) → Option Uses
next_dashed form later None more = None
next_dashed form later (Some dashed) more =
    if list_any (is_use_of dashed.0) later then None else with_dashed form dashed.0 dashed.1 more

-- what words use, where they keep the rules. These positionals are still to come, and this option awaits its value, if one does
abbrev pub uses_from : CommandForm → List (List ℕ) → Option (List ℕ) → List (List ℕ) → Option Uses
uses_from form left None [] = Some []
uses_from form left (Some name) [] = None
uses_from form left (Some name) (word ∷ words) = if is_plain word then with_use name (Some word) (uses_from form left None words) else None
uses_from form left None (word ∷ words) =
    if is_plain word then next_positional left word (λ others. uses_from form others None words)
    else next_dashed form words (dashed_name word) (λ awaited. uses_from form left awaited words)

-- what the words after a command use
abbrev pub uses_in : CommandForm → List (List ℕ) → Option Uses
uses_in form words = uses_from form form.positionals None words

-- What words give

-- by their names: the values of positionals and options, and whether a flag stands
pub record Given : Type 0 where
  pub value : List ℕ → Option (List ℕ)
  pub flag : List ℕ → Bool

-- the first use of a name
abbrev pub use_of : List ℕ → Uses → Option (List ℕ × Option (List ℕ))
use_of name uses = find (λ pair. bytes_eq pair.0 name) uses

abbrev pub given_by : Uses → Given
given_by uses = record {
  value = λ name. option_and_then (λ pair. pair.1) (use_of name uses);
  flag = λ name. option_map_or (λ pair. not (is_some pair.1)) (use_of name uses) false;
}

-- what the words after a command give, where they keep the rules
abbrev pub given_in : CommandForm → List (List ℕ) → Option Given
given_in form words = option_map given_by (uses_in form words)

-- Numbers

-- a word isn't empty, and no zero (48) stands in front of another byte
abbrev pub has_no_leading_zero : List ℕ → Bool
has_no_leading_zero [] = false
has_no_leading_zero (first ∷ rest) = not (first == 48) || length rest == 0

-- decimal digits, without a sign
abbrev pub is_numeral : List ℕ → Bool
is_numeral word = list_all is_ascii_digit word && has_no_leading_zero word

-- the number that a word is, at most 2 ^ 64 - 1
abbrev pub word_number : List ℕ → Option ℕ
word_number word = if is_numeral word && nat_lt (digits_value 10 word) (2 ^ 64) then Some (digits_value 10 word) else None

-- the number of a word that may be left out; none where there is a word that is no number
abbrev pub optional_number : Option (List ℕ) → Option (Option ℕ)
optional_number None = Some None
optional_number (Some word) = option_map (λ number. Some number) (word_number word)
