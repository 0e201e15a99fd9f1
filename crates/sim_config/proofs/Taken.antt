-- clap takes the words that keep the rules of a form, and what it finds is what they give.
use Rattle.std.proofs.Common.{◌≡◌, ℕ, ◌+◌, Bool, true, false, cond, List, [], ◌∷◌, ◌++◌, Option, Some, None, map, refl, sym, ap, ap₂, ◌∙◌, inl, inr, drop, codes}
use Rattle.std.specs.Prelude.{◌&&◌, ◌||◌, not, is_some, option_and_then, option_map, unwrap_or, slice_get}
use Rattle.std.specs.List.{list_all, fold}
use Rattle.std.specs.Option.{option_map_or}
use Rattle.std.specs.Str.{bytes_eq}
use Rattle.std.proofs.Math.Path.{fun_ext}
use Rattle.std.proofs.lemmas.Bool.{cases_Bool, and_from, or_parts, true≢false}
use Rattle.clap.specs.Matches.{found_of, first_value}
use Rattle.clap.specs.Simple.{argument_words, entered, matches_of, names_of}
use Rattle.clap.specs.Takes.{built_takes, default_passes, entered_passes, is_given, level_passes, takes}
use Rattle.clap.specs.Walk.{Row, Rule, finished, first_of, has_row, more_values, nothing_held, rows_after, settled, walk, walk_from, with_default}
use Rattle.clap.specs.declared.builder.value_parser.Reading.TheVariants.{AsWritten}
use Rattle.clap.specs.declared.parser.matches.ArgMatches.{ArgMatches}
use Rattle.clap.specs.declared.parser.matches.ValueSource.TheVariants.{DefaultValue}
use Rattle.sim_config.specs.Words.{CommandForm, Uses, given_by, given_in, has_name, use_of, uses_in}
use Rattle.sim_config.specs.Inner.{app_of_form, IsTakenByClap, arguments_of, complete, flag, given_found, is_true, numbered, option, single}
use Rattle.sim_config.proofs.Names.{one_name}
use Rattle.sim_config.proofs.Walks.{at_row-new, rows, shape}
use Rattle.sim_config.proofs.Ends.{AreMarked, Between, Ends, ends}

-- The arguments of a form

-- what holds of each argument with one value, and of each flag, holds of all
all_arguments : (test : Rule → Bool) → ((name : List ℕ) (long : Option (List ℕ)) (index : Option ℕ) → test (single name long index) ≡ true) → ((name : List ℕ) → test (flag name) ≡ true)
    → (index : ℕ) (names options flags : List (List ℕ)) → list_all test (numbered index names ++ (map option options ++ map flag flags)) ≡ true
all_arguments test each lone index [] [] [] = refl
all_arguments test each lone index [] [] (name ∷ flags) = rw (lone name) (all_arguments test each lone index [] [] flags)
all_arguments test each lone index [] (name ∷ options) flags = rw (each name (Some name) None) (all_arguments test each lone index [] options flags)
all_arguments test each lone index (name ∷ names) options flags = rw (each name None (Some index)) (all_arguments test each lone (index + 1) names options flags)

-- Defaults

-- an argument with one value has no default
no_default : (b : Bool) (found : List Row) → cond b found found ≡ found
no_default true found = refl
no_default false found = refl

flags_alone : (found : List Row) (index : ℕ) (names options flags : List (List ℕ))
    → fold with_default found (numbered index names ++ (map option options ++ map flag flags)) ≡ fold with_default found (map flag flags)
flags_alone found index [] [] flags = refl
flags_alone found index [] (name ∷ options) flags =
    ap (λ rest. fold with_default rest (map option options ++ map flag flags)) (no_default (has_row name found) found) ∙ flags_alone found index [] options flags
flags_alone found index (name ∷ names) options flags =
    ap (λ rest. fold with_default rest (numbered (index + 1) names ++ (map option options ++ map flag flags))) (no_default (has_row name found) found)
    ∙ flags_alone found (index + 1) names options flags

-- the row of a flag that doesn't stand
abbrev default_row : List ℕ → Row
default_row name = record {
  id = name;
  values = codes "false" ∷ [];
  count = None;
  source = Some DefaultValue;
  reading = AsWritten;
}

first_of-none : (name : List ℕ) (found : List Row) → has_row name found ≡ false → first_of name found ≡ None
first_of-none name [] none = refl
first_of-none name (r ∷ found) none =
    let parts = or_parts (bytes_eq r.id name) (has_row name found) none in
    rw parts.0 (first_of-none name found parts.1)

first_of-last : (name : List ℕ) (found : List Row) (last : Row)
    → first_of name (found ++ last ∷ []) ≡ cond (has_row name found) (first_of name found) (cond (bytes_eq last.id name) (slice_get last.values 0) None)
first_of-last name [] last = elim (cases_Bool (bytes_eq last.id name)) [ inl same ↦ rw same refl | inr other ↦ rw other refl ]
first_of-last name (r ∷ found) last = elim (cases_Bool (bytes_eq r.id name)) [
  | inl same ↦ rw same refl
  | inr other ↦ rw other (first_of-last name found last)
]

has_row-more : (name : List ℕ) (found : List Row) (last : Row) → has_row name (found ++ last ∷ []) ≡ (has_row name found || bytes_eq last.id name)
has_row-more name [] last = elim (cases_Bool (bytes_eq last.id name)) [ inl same ↦ rw same refl | inr other ↦ rw other refl ]
has_row-more name (r ∷ found) last = elim (cases_Bool (bytes_eq r.id name)) [
  | inl same ↦ rw same refl
  | inr other ↦ rw other (has_row-more name found last)
]

-- the first value of a name, where flags have their defaults: the first that was found, or `false` for a flag without one
abbrev first_or_default : List (List ℕ) → List Row → List ℕ → Option (List ℕ)
first_or_default flags found name = cond (has_row name found) (first_of name found) (cond (has_name flags name) (Some (codes "false")) None)

first_of-finished : (flags : List (List ℕ)) (found : List Row) (name : List ℕ) → first_of name (fold with_default found (map flag flags)) ≡ first_or_default flags found name
first_of-finished [] found name = elim (cases_Bool (has_row name found)) [
  | inl row ↦ rw row refl
  | inr none ↦ rw none (first_of-none name found none)
]
first_of-finished (f ∷ flags) found name = elim (cases_Bool (has_row f found)) [
  | inl row ↦ (
      let same_rows : with_default found (flag f) ≡ found = rw row refl in
      ap (λ rest. first_of name (fold with_default rest (map flag flags))) same_rows
      ∙ (first_of-finished flags found name ∙ stands f flags found name row))
  | inr new ↦ (
      let more : with_default found (flag f) ≡ found ++ default_row f ∷ [] = rw new (at_row-new f (more_values DefaultValue (codes "false" ∷ [])) (default_row f ∷ []) found new) in
      ap (λ rest. first_of name (fold with_default rest (map flag flags))) more
      ∙ (first_of-finished flags (found ++ default_row f ∷ []) name ∙ added f flags found name))
] where
  -- a flag that has a row needs no default
  stands : (f : List ℕ) (flags : List (List ℕ)) (found : List Row) (name : List ℕ) → has_row f found ≡ true
      → first_or_default flags found name ≡ first_or_default (f ∷ flags) found name
  stands f flags found name row = elim (cases_Bool (bytes_eq f name)) [
    | inl same ↦ (let row_too : has_row name found ≡ true = sym (ap (λ n. has_row n found) (one_name f name same)) ∙ row in rw row_too refl)
    | inr other ↦ rw other refl
  ]

  added : (f : List ℕ) (flags : List (List ℕ)) (found : List Row) (name : List ℕ)
      → first_or_default flags (found ++ default_row f ∷ []) name ≡ first_or_default (f ∷ flags) found name
  added f flags found name = elim (cases_Bool (has_row name found)) [
    | inl row ↦ rw (has_row-more name found (default_row f), first_of-last name found (default_row f), row) refl
    | inr none ↦ elim (cases_Bool (bytes_eq f name)) [
      | inl same ↦ rw (has_row-more name found (default_row f), first_of-last name found (default_row f), none, same) refl
      | inr other ↦ rw (has_row-more name found (default_row f), first_of-last name found (default_row f), none, other) refl
    ]
  ]

-- What words give

-- what clap says of a name, by the first use of it
abbrev said : Bool → Option (List ℕ × Option (List ℕ)) → Option (List ℕ)
said is_flag None = cond is_flag (Some (codes "false")) None
said is_flag (Some pair) = Some (unwrap_or pair.1 (codes "true"))

abbrev MayBe : Bool → Option (List ℕ × Option (List ℕ)) → Type 0
MayBe is_flag None = Unit {0}
MayBe is_flag (Some pair) = is_some pair.1 ≡ not is_flag

module _ (flags : List (List ℕ)) (name : List ℕ) where
  said-rows : (uses : Uses) → first_or_default flags (rows uses) name ≡ said (has_name flags name) (use_of name uses)
  said-rows [] = refl
  said-rows (pair ∷ uses) = elim (cases_Bool (bytes_eq pair.0 name)) [
    | inl same ↦ rw same refl
    | inr other ↦ rw other (said-rows uses)
  ]

  first_marked : (uses : Uses) → AreMarked flags uses → MayBe (has_name flags name) (use_of name uses)
  first_marked [] marked = tt
  first_marked (pair ∷ uses) marked = elim (cases_Bool (bytes_eq pair.0 name)) [
    | inl same ↦ rw same (marked.0 ∙ ap (λ n. not (has_name flags n)) (one_name pair.0 name same))
    | inr other ↦ rw other (first_marked uses marked.1)
  ]

value_said : (is_flag : Bool) (first : Option (List ℕ × Option (List ℕ))) → MayBe is_flag first
    → option_and_then (λ pair. pair.1) first ≡ cond is_flag None (said is_flag first)
value_said true None it = refl
value_said false None it = refl
value_said true (Some (name, None)) it = refl
value_said true (Some (name, Some content)) it = absurd (true≢false it)
value_said false (Some (name, None)) it = absurd (true≢false (sym it))
value_said false (Some (name, Some content)) it = refl

flag_said : (is_flag : Bool) (first : Option (List ℕ × Option (List ℕ))) → MayBe is_flag first
    → option_map_or (λ pair. not (is_some pair.1)) first false ≡ (is_flag && is_true (said is_flag first))
flag_said true None it = refl
flag_said false None it = refl
flag_said true (Some (name, None)) it = refl
flag_said true (Some (name, Some content)) it = absurd (true≢false it)
flag_said false (Some (name, None)) it = absurd (true≢false (sym it))
flag_said false (Some (name, Some content)) it = refl

-- Whole word lists

module _ (form : CommandForm) (words : List (List ℕ)) (uses : Uses) (it : IsTakenByClap form) (keeps : uses_in form words ≡ Some uses) where
  at_start : Between (form.options ++ form.flags) form.flags (arguments_of form) [] form.positionals 1 nothing_held words
  at_start = record {
    holds = record { settles = refl; passes = refl };
    finds = it.positionals;
    marked = tt;
    once = λ name has row. absurd (true≢false (sym row));
    fresh = λ name has. refl;
    apart = it.apart;
  }

  at_end : Ends form.flags (arguments_of form) uses (walk_from nothing_held) words
  at_end = ends form (arguments_of form) it.options it.flags it.flags_apart it.named words None form.positionals 1 nothing_held [] uses at_start tt keeps

  level : level_passes (shape (arguments_of form)) [] nothing_held words false ≡ true
  level =
      and_from _ _ at_end.passes
      (and_from _ _ at_end.held.passes
      (and_from _ _ (all_arguments default_passes (λ name long index. refl) (λ name. refl) 1 form.positionals form.options form.flags)
      (and_from _ _ (all_arguments (λ a. a.is_free) (λ name long index. refl) (λ name. refl) 1 form.positionals form.options form.flags)
      (all_arguments (λ a. not a.required || is_given a.id (finished (arguments_of form) (walk (arguments_of form) [] nothing_held words).held))
      (λ name long index. refl) (λ name. refl) 1 form.positionals form.options form.flags))))

  whole_words : argument_words (app_of_form form) words ≡ words
  whole_words = ap (λ b. cond b words (drop 1 words)) it.all_words

  complete_takes : built_takes (complete (arguments_of form)) nothing_held words ≡ true
  complete_takes =
      let app = complete (arguments_of form) in
      ap (λ stop. entered_passes app stop && level_passes app.top [] nothing_held words (is_some (entered app stop))) at_end.stopped ∙ level

  -- clap takes words that keep the rules
  pub taken : takes (app_of_form form) words ≡ true
  taken = and_from _ _ it.simple (ap₂ (λ app ws. built_takes app nothing_held ws) it.completed whole_words ∙ complete_takes)

  found_said : (name : List ℕ) → first_of name (matches_of (app_of_form form) words) ≡ said (has_name form.flags name) (use_of name uses)
  found_said name =
      let rules = arguments_of form in
      ap₂ (λ app ws. first_of name (rows_after app.top.rules (names_of app) ws)) it.completed whole_words
      ∙ (ap (first_of name) (flags_alone (settled rules (walk rules [] nothing_held words).held).rows 1 form.positionals form.options form.flags)
      ∙ (first_of-finished form.flags _ name
      ∙ (ap (λ found. first_or_default form.flags found name) at_end.held.settles ∙ said-rows form.flags name uses)))

  -- and what it finds is what they give
  pub found_given : (m : ArgMatches) → ((name : List ℕ) → first_value (found_of m) name ≡ first_of name (matches_of (app_of_form form) words))
      → given_in form words ≡ Some (given_found form m)
  found_given m finds =
      let may : (name : List ℕ) → MayBe (has_name form.flags name) (use_of name uses) = λ name. first_marked form.flags name uses at_end.marked in
      let tells : (name : List ℕ) → said (has_name form.flags name) (use_of name uses) ≡ first_value (found_of m) name = λ name. sym (finds name ∙ found_said name) in
      let of_value : (given_by uses).value ≡ (given_found form m).value = fun_ext (λ name.
      value_said (has_name form.flags name) (use_of name uses) (may name) ∙ ap (λ text. cond (has_name form.flags name) None text) (tells name)) in
      let of_flag : (given_by uses).flag ≡ (given_found form m).flag = fun_ext (λ name.
      flag_said (has_name form.flags name) (use_of name uses) (may name) ∙ ap (λ text. has_name form.flags name && is_true text) (tells name)) in
      ap (option_map given_by) keeps
      ∙ ap₂ (λ (value : List ℕ → Option (List ℕ)) (flag : List ℕ → Bool). Some (record { value = value; flag = flag })) of_value of_flag
