-- What clap's walk makes of one word that keeps the rules, and what it then holds.
use Rattle.std.proofs.Common.{◌≡◌, ℕ, ◌+◌, Bool, true, false, cond, List, [], ◌∷◌, ◌++◌, Option, Some, None, map, refl, sym, ap, ◌∙◌, inl, inr, append-nil, min, codes}
use Rattle.std.specs.Prelude.{◌&&◌, ◌||◌, ◌==◌, option_map, unwrap_or}
use Rattle.std.specs.Option.{option_map_or}
use Rattle.std.specs.Str.{bytes_eq}
use Rattle.std.proofs.lemmas.Bool.{cases_Bool, and_parts, or_parts, or_right, not-true}
use Rattle.std.proofs.lemmas.List.{map-append}
use Rattle.std.proofs.lemmas.Option.{same_Some}
use Rattle.clap.specs.Lexer.{long_of, short_of, usize_max}
use Rattle.clap.specs.Simple.{Shape}
use Rattle.clap.specs.Takes.{settle_passes, turn_passes, use_passes}
use Rattle.clap.specs.Walk.{Held, Row, Rule, Walk, Waiting, after_step, arg_by_id, arg_by_index, arg_by_long, at_row, first_of, has_row, idle, is_pending, more_values, option as waiting_option, pushed, reacted, settled, settled_rows, to_positional, used, used_by_id, value, walked, word_met}
use Rattle.clap.specs.declared.builder.value_parser.Reading.TheVariants.{AsWritten}
use Rattle.clap.specs.declared.parser.matches.ValueSource.TheVariants.{CommandLine}
use Rattle.sim_config.specs.Words.{Uses, dashed_name, is_plain, name_and_value, use_of}
use Rattle.sim_config.specs.Inner.{complete, flag, option, positional, single}
use Rattle.sim_config.proofs.Names.{same_name}

-- Rows

-- the row of a use: a flag has the value `true`
abbrev pub row : List ℕ × Option (List ℕ) → Row
row pair = record {
  id = pair.0;
  values = unwrap_or pair.1 (codes "true") ∷ [];
  count = None;
  source = Some CommandLine;
  reading = AsWritten;
}

abbrev pub rows : Uses → List Row
rows uses = map row uses

-- a name that has no row goes last
pub at_row-new : (id : List ℕ) (change : Row → List Row) (missing : List Row) (found : List Row) → has_row id found ≡ false → at_row id change missing found ≡ found ++ missing
at_row-new id change missing [] new = refl
at_row-new id change missing (r ∷ rs) new =
    let parts = or_parts (bytes_eq r.id id) (has_row id rs) new in
    rw parts.0 (ap (λ found. r ∷ found) (at_row-new id change missing rs parts.1))

pub has_row-last : (name : List ℕ) (pair : List ℕ × Option (List ℕ)) (done : Uses) → has_row name (rows (done ++ pair ∷ [])) ≡ (has_row name (rows done) || bytes_eq pair.0 name)
has_row-last name pair [] = elim (cases_Bool (bytes_eq pair.0 name)) [ inl same ↦ rw same refl | inr other_one ↦ rw other_one refl ]
has_row-last name pair (first ∷ done) = elim (cases_Bool (bytes_eq first.0 name)) [
  | inl same ↦ rw same refl
  | inr other_one ↦ rw other_one (has_row-last name pair done)
]

-- the first value of a name
pub first_of-rows : (name : List ℕ) (uses : Uses) → first_of name (rows uses) ≡ option_map (λ pair. unwrap_or pair.1 (codes "true")) (use_of name uses)
first_of-rows name [] = refl
first_of-rows name (pair ∷ uses) = elim (cases_Bool (bytes_eq pair.0 name)) [
  | inl same ↦ rw same refl
  | inr other_one ↦ rw other_one (first_of-rows name uses)
]

-- One use of an argument

module _ (name : List ℕ) (long : Option (List ℕ)) (index : Option ℕ) (content : List ℕ) (found : List Row) (new : has_row name found ≡ false) where
  used-new : used (single name long index) (content ∷ []) found ≡ found ++ row (name, Some content) ∷ []
  used-new =
      let gone = at_row-new name (λ _. []) [] found new ∙ append-nil found in
      rw gone (at_row-new name (more_values CommandLine (content ∷ [])) (row (name, Some content) ∷ []) found new)

  use_passes-new : use_passes false (single name long index) (content ∷ []) found ≡ true
  use_passes-new = rw new refl

-- a flag that stands
module _ (name : List ℕ) (found : List Row) (new : has_row name found ≡ false) where
  used-flag : used (flag name) [] found ≡ found ++ row (name, None) ∷ []
  used-flag =
      let gone = at_row-new name (λ _. []) [] found new ∙ append-nil found in
      rw gone (at_row-new name (more_values CommandLine (codes "true" ∷ [])) (row (name, None) ∷ []) found new)

  use_passes-flag : use_passes false (flag name) [] found ≡ true
  use_passes-flag = rw new refl

-- Words

-- a plain word begins with no dash
plain_long : (word : List ℕ) → is_plain word ≡ true → long_of word ≡ None
plain_long [] plain = refl
plain_long (first ∷ text) plain = rw (not-true (first == 45) plain) refl

plain_short : (word : List ℕ) → is_plain word ≡ true → short_of word ≡ None
plain_short [] plain = refl
plain_short (first ∷ text) plain = rw (not-true (first == 45) plain) refl

plain_other : (word : List ℕ) → is_plain word ≡ true → bytes_eq word (45 ∷ 45 ∷ []) ≡ false
plain_other [] plain = refl
plain_other (first ∷ text) plain = rw (not-true (first == 45) plain) refl

-- a word `--name` or `--name=value` is one that clap reads so
pub record IsLong (word name : List ℕ) (content : Option (List ℕ)) : Type 0 where
  pub long : long_of word ≡ Some (name, content)
  pub other : bytes_eq word (45 ∷ 45 ∷ []) ≡ false

dashed_long : (first second : ℕ) (text name : List ℕ) (content : Option (List ℕ)) → first == 45 ≡ true → second == 45 ≡ true
    → name_and_value text ≡ (name, content) → (name ≡ [] → ⊥) → IsLong (first ∷ (second ∷ text)) name content
dashed_long first second [] name content one two parts named = absurd (named (sym (ap (λ pair. pair.0) parts)))
dashed_long first second (third ∷ text) name content one two parts named = record {
  long = rw (one, two) (ap Some parts);
  other = rw (one, two) refl;
}

pub is_long : (word name : List ℕ) (content : Option (List ℕ)) → dashed_name word ≡ Some (name, content) → (name ≡ [] → ⊥) → IsLong word name content
is_long [] name content found named = cc
is_long (first ∷ []) name content found named = cc
is_long (first ∷ (second ∷ text)) name content found named = elim (cases_Bool (first == 45 && second == 45)) [
  | inl dashes ↦ (let both = and_parts _ _ dashes in
      let parts : Some (name_and_value text) ≡ Some (name, content) = sym (ap (λ b. cond b (Some (name_and_value text)) None) dashes) ∙ found in
      dashed_long first second text name content both.0 both.1 (same_Some _ _ parts) named)
  | inr others ↦ (let none : ◌≡◌ {A = Option (List ℕ × Option (List ℕ))} None (Some (name, content)) = sym (ap (λ b. cond b (Some (name_and_value text)) None) others) ∙ found in cc)
]

-- The walk, word by word

module _ (rules : List Rule) where
  -- what is held comes to these values, and settling it passes
  pub record Holds (done : Uses) (h : Held) : Type 0 where
    pub settles : settled_rows rules h.pending h.rows ≡ rows done
    pub passes : settle_passes rules false h ≡ true

  -- what is held is settled, and this is pending
  abbrev pub pending : List ℕ → List (List ℕ) → Held → Held
  pending name contents h = record { rows = settled_rows rules h.pending h.rows; pending = Some (name, contents); skip = h.skip }

  abbrev pub place : Held → Waiting → ℕ → Walk
  place h waiting position = record { held = h; waiting = waiting; position = position; is_trailing = false; stopped = None }

  abbrev pub shape : Shape
  shape = (complete rules).top

  -- a new value is held
  pub holds_new : (done : Uses) (h : Held) (name content : List ℕ) (long : Option (List ℕ)) (index : Option ℕ) → Holds done h
      → arg_by_id rules name ≡ Some (single name long index) → has_row name (rows done) ≡ false
      → Holds (done ++ (name, Some content) ∷ []) (pending name (content ∷ []) h)
  holds_new done h name content long index it found new =
      let before = settled_rows rules h.pending h.rows in
      let fresh : has_row name before ≡ false = ap (has_row name) it.settles ∙ new in
      record {
        settles =
            ap (λ a. used_by_id a (content ∷ []) before) found ∙ used-new name long index content before fresh
            ∙ ap (λ found. found ++ row (name, Some content) ∷ []) it.settles ∙ sym (map-append row done ((name, Some content) ∷ []));
        passes = ap (λ a. option_map_or (λ b. use_passes false b (content ∷ []) before) a true) found ∙ use_passes-new name long index content before fresh;
      }

  -- a value that stood in its word is held
  pub holds_attached : (done : Uses) (h : Held) (name content : List ℕ) → Holds done h → has_row name (rows done) ≡ false
      → Holds (done ++ (name, Some content) ∷ []) (reacted rules (option name) (content ∷ []) h)
  holds_attached done h name content it new =
      let before = settled_rows rules h.pending h.rows in
      let fresh : has_row name before ≡ false = ap (has_row name) it.settles ∙ new in
      record {
        settles =
            used-new name (Some name) None content before fresh
            ∙ ap (λ found. found ++ row (name, Some content) ∷ []) it.settles ∙ sym (map-append row done ((name, Some content) ∷ []));
        passes = refl;
      }

  -- a flag is held
  pub holds_flag : (done : Uses) (h : Held) (name : List ℕ) → Holds done h → has_row name (rows done) ≡ false
      → Holds (done ++ (name, None) ∷ []) (reacted rules (flag name) [] h)
  holds_flag done h name it new =
      let before = settled_rows rules h.pending h.rows in
      let fresh : has_row name before ≡ false = ap (has_row name) it.settles ∙ new in
      record {
        settles =
            used-flag name before fresh
            ∙ ap (λ found. found ++ row (name, None) ∷ []) it.settles ∙ sym (map-append row done ((name, None) ∷ []));
        passes = refl;
      }

  -- one more word: where the walk stands after it, and that it passes
  pub record Goes (w : Walk) (word : List ℕ) (after : Walk) : Type 0 where
    pub goes : walked rules [] w word ≡ after
    pub passes : turn_passes shape [] w word ≡ true

  -- what a plain word is where nothing waits
  plain_met : (word : List ℕ) (position : ℕ) (h : Held) → is_plain word ≡ true → word_met rules [] false idle position word h ≡ (h, value)
  plain_met word position h plain = rw (plain_other word plain, plain_long word plain, plain_short word plain) refl

  to_place : (name word : List ℕ) (position : ℕ) (h : Held) (is_pending : Bool)
      → ◌≡◌ {A = Held} (pushed name word (cond (is_pending && false) h (settled rules h))) (pending name (word ∷ []) h)
  to_place name word position h true = refl
  to_place name word position h false = refl

  pub goes_positional : (word name : List ℕ) (position : ℕ) (done : Uses) (h : Held) → is_plain word ≡ true → Holds done h
      → arg_by_index rules position ≡ Some (positional position name)
      → Goes (place h idle position) word (place (pending name (word ∷ []) h) idle (min (position + 1) usize_max))
  unfolding walked
  goes_positional word name position done h plain it found = record {
    goes =
        ap (λ met. after_step rules word (place h idle position) met.0 met.1) (plain_met word position h plain)
        ∙ ap (λ a. to_positional rules a word (place h idle position) h) found
        ∙ ap (λ held. place held idle (min (position + 1) usize_max)) (to_place name word position h (is_pending (positional position name) h.pending));
    passes =
        rw (plain_other word plain, plain_long word plain, plain_short word plain, found)
        (or_right _ _ it.passes);
  }

  pub goes_value : (word name : List ℕ) (position : ℕ) (done : Uses) (h : Held) → is_plain word ≡ true → arg_by_id rules name ≡ Some (option name)
      → Goes (place (pending name [] h) (waiting_option name) position) word (place (pending name (word ∷ []) h) idle position)
  unfolding walked
  goes_value word name position done h plain found = record {
    goes = rw (plain_other word plain, plain_long word plain, plain_short word plain, found, same_name name) refl;
    passes = rw (plain_other word plain, plain_long word plain, plain_short word plain) refl;
  }

  pub goes_option : (word name : List ℕ) (position : ℕ) (done : Uses) (h : Held) → IsLong word name None → Holds done h
      → arg_by_long rules name ≡ Some (option name)
      → Goes (place h idle position) word (place (pending name [] h) (waiting_option name) position)
  unfolding walked
  goes_option word name position done h is it found = record {
    goes = rw (is.other, is.long, found) refl;
    passes = rw (is.other, is.long, found, it.passes) refl;
  }

  pub goes_attached : (word name content : List ℕ) (position : ℕ) (done : Uses) (h : Held) → IsLong word name (Some content) → Holds done h
      → has_row name (rows done) ≡ false → arg_by_long rules name ≡ Some (option name)
      → Goes (place h idle position) word (place (reacted rules (option name) (content ∷ []) h) idle position)
  unfolding walked
  goes_attached word name content position done h is it new found =
      let before = settled_rows rules h.pending h.rows in
      let fresh : has_row name before ≡ false = ap (has_row name) it.settles ∙ new in
      record {
        goes = rw (is.other, is.long, found) refl;
        passes = rw (is.other, is.long, found, it.passes, fresh) refl;
      }

  pub goes_flag : (word name : List ℕ) (position : ℕ) (done : Uses) (h : Held) → IsLong word name None → Holds done h
      → has_row name (rows done) ≡ false → arg_by_long rules name ≡ Some (flag name)
      → Goes (place h idle position) word (place (reacted rules (flag name) [] h) idle position)
  unfolding walked
  goes_flag word name position done h is it new found =
      let before = settled_rows rules h.pending h.rows in
      let fresh : has_row name before ≡ false = ap (has_row name) it.settles ∙ new in
      record {
        goes = rw (is.other, is.long, found) refl;
        passes = rw (is.other, is.long, found, it.passes, fresh) refl;
      }
