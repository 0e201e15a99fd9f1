-- What only private functions' clauses cite: the code's state between two words, and what clap makes of a form.
use Rattle.std.specs.Prelude.{◌≡◌, ℕ, ◌+◌, ◌&&◌, Bool, true, false, not, List, [], ◌∷◌, ◌++◌, map, min, if◌then◌else◌, Option, Some, None, option_and_then, String, Result, Ok, Err, codes}
use Rattle.std.specs.Str.{bytes_eq}
use Rattle.std.specs.Option.{option_map_or, option_copied}
use Rattle.std.specs.Borrow.{Bor}
use Rattle.clap.specs.Lexer.{usize_max}
use Rattle.clap.specs.Matches.{first_value, found_of}
use Rattle.clap.specs.Simple.{App, built, is_simple, new_rule, new_shape, with_rule}
use Rattle.clap.specs.Walk.{Rule, arg_by_id, arg_by_index, arg_by_long}
use Rattle.clap.specs.declared.builder.action.ArgAction.TheVariants.{Set, SetTrue}
use Rattle.clap.specs.declared.builder.value_parser.ValueParser.TheVariants as parser
use Rattle.clap.specs.declared.parser.matches.ArgMatches.{ArgMatches}
use Rattle.toml.specs.Data.{Members}
use Rattle.toml.specs.View.{table_view}
use Rattle.toml.specs.declared.value.Value.{Value}
use Rattle.std.specs.BTreeMap.{BTreeMap}
use Rattle.std.specs.declared.alloc.Global.{Global}
use Rattle.sim_base.specs.declared.settings.Field.TheVariants.{Text}
use Rattle.sim_config.specs.declared.faults.ConfigFault.{ConfigFault}
use Rattle.sim_config.specs.declared.faults.ConfigFault.TheVariants.{Bad, NoMemory as NoMemoryForConfig}
use Rattle.sim_config.specs.declared.faults.RequestFault.{RequestFault}
use Rattle.sim_config.specs.declared.faults.RequestFault.TheVariants.{Usage, NoMemory}
use Rattle.sim_config.specs.declared.forms.Form.{Form}
use Rattle.sim_config.specs.declared.rules.Reading.{Reading}
use Rattle.sim_config.specs.declared.rules.Turn.{Turn}
use Rattle.sim_config.specs.declared.rules.Use.{Use}
use Rattle.sim_config.specs.Words.{CommandForm, Given, Uses, has_name, use_of, uses_from, with_use}

-- The words after a command

-- the names behind references
abbrev pub names_of : List (Bor (List ℕ)) → List (List ℕ)
names_of = map (λ name. name.now)

-- the form that the code lends
abbrev pub lent_form : Form → CommandForm
lent_form form = record {
  positionals = names_of form.positionals.now;
  options = names_of form.options.now;
  flags = names_of form.flags.now;
}

-- what words use from a place between two words on
abbrev pub uses_at : CommandForm → Reading → List (List ℕ) → Option Uses
uses_at form place words = uses_from form (names_of place.left.now) (option_copied place.awaited) words

-- a use, out of the words that the code lends
abbrev pub lent_use : Use → List ℕ × Option (List ℕ)
lent_use used = (used.name.now, option_copied used.value)

-- what is used with a word has this name
abbrev pub is_of_name : List ℕ → Option Use → Bool
is_of_name name used = option_map_or (λ u. bytes_eq u.name.now name) used false

-- what is used with a word, before what later words use
abbrev pub with_used : Option Use → Option Uses → Option Uses
with_used None more = more
with_used (Some used) more = with_use used.name.now (option_copied used.value) more

-- what a word and those after it use, by what it does, if it may stand
abbrev pub uses_after : CommandForm → Option Turn → List (List ℕ) → Option Uses
uses_after form None words = None
uses_after form (Some turn) words = with_used turn.used (uses_at form turn.next words)

-- the first use of a name, where words keep the rules
abbrev pub first_use_of : List ℕ → Option Uses → Option (List ℕ × Option (List ℕ))
first_use_of name uses = option_and_then (use_of name) uses

-- What clap makes of a form

-- an option, as it is told to clap
abbrev pub option_rule : List ℕ → Rule
option_rule name = record (new_rule name) { long = Some name }

-- a flag, as it is told to clap
abbrev pub flag_rule : List ℕ → Rule
flag_rule name = record (option_rule name) { action = Some SetTrue }

abbrev pub with_rules : App → List Rule → App
with_rules app [] = app
with_rules app (rule ∷ rules) = with_rules (with_rule app rule) rules

-- a command without arguments
abbrev pub bare_app : App
bare_app = record { top = record (new_shape (codes "tilesim")) { no_binary_name = true; disable_help_flag = true }; subs = [] }

-- the command of a form
abbrev pub app_of_form : CommandForm → App
app_of_form form = with_rules (with_rules (with_rules bare_app (map new_rule form.positionals)) (map option_rule form.options)) (map flag_rule form.flags)

-- an argument with one value, as clap completes it
abbrev pub single : List ℕ → Option (List ℕ) → Option ℕ → Rule
single name long index = record (new_rule name) {
  long = long;
  index = index;
  action = Some Set;
  range = Some (record { start_inclusive = 1; end_inclusive = 1 });
  parser = Some parser.String;
}

abbrev pub positional : ℕ → List ℕ → Rule
positional index name = single name None (Some index)

abbrev pub option : List ℕ → Rule
option name = single name (Some name) None

-- a flag, as clap completes it
abbrev pub flag : List ℕ → Rule
flag name = record (new_rule name) {
  long = Some name;
  action = Some SetTrue;
  range = Some (record { start_inclusive = 0; end_inclusive = 0 });
  defaults = codes "false" ∷ [];
  missing = codes "true" ∷ [];
  parser = Some parser.Bool;
}

-- the positionals, numbered from an index on
abbrev pub numbered : ℕ → List (List ℕ) → List Rule
numbered index [] = []
numbered index (name ∷ names) = positional index name ∷ numbered (index + 1) names

abbrev pub arguments_of : CommandForm → List Rule
arguments_of form = numbered 1 form.positionals ++ (map option form.options ++ map flag form.flags)

-- a command with these arguments, as clap completes it
abbrev pub complete : List Rule → App
complete rules = record {
  top = record (new_shape (codes "tilesim")) {
    rules = rules;
    no_binary_name = true;
    disable_help_flag = true;
    disable_help_subcommand = true;
    is_built = true;
  };
  subs = [];
}

-- each positional is found at its place, from an index on, and by its name
abbrev pub FindsPositionals : List Rule → ℕ → List (List ℕ) → Type 0
FindsPositionals rules index [] = Unit {0}
FindsPositionals rules index (name ∷ names) =
    (arg_by_index rules index ≡ Some (positional index name)) × (arg_by_id rules name ≡ Some (positional index name))
    × FindsPositionals rules (min (index + 1) usize_max) names

-- each option is found by its name
abbrev pub FindsOptions : List Rule → List (List ℕ) → Type 0
FindsOptions rules [] = Unit {0}
FindsOptions rules (name ∷ names) =
    (arg_by_long rules name ≡ Some (option name)) × (arg_by_id rules name ≡ Some (option name)) × FindsOptions rules names

-- each flag is found by its name
abbrev pub FindsFlags : List Rule → List (List ℕ) → Type 0
FindsFlags rules [] = Unit {0}
FindsFlags rules (name ∷ names) = (arg_by_long rules name ≡ Some (flag name)) × FindsFlags rules names

-- no name stands twice, nor among the others
abbrev pub are_apart : List (List ℕ) → List (List ℕ) → Bool
are_apart [] others = true
are_apart (name ∷ names) others = not (has_name names name) && (not (has_name others name) && are_apart names others)

-- clap takes the words of this form
pub record IsTakenByClap (form : CommandForm) : Type 0 where
  pub completed : built (app_of_form form) ≡ complete (arguments_of form)
  pub simple : is_simple (app_of_form form) ≡ true
  pub all_words : (app_of_form form).top.no_binary_name ≡ true
  pub positionals : FindsPositionals (arguments_of form) 1 form.positionals
  pub options : FindsOptions (arguments_of form) form.options
  pub flags : FindsFlags (arguments_of form) form.flags
  pub apart : are_apart form.positionals (form.options ++ form.flags) ≡ true
  pub flags_apart : are_apart form.flags form.options ≡ true
  pub named : has_name (form.options ++ form.flags) [] ≡ false

-- a value that is the text `true`
abbrev pub is_true : Option (List ℕ) → Bool
is_true value = option_map_or (λ text. bytes_eq text (codes "true")) value false

-- what clap finds, by the names of a form: clap gives each flag the value `true` or `false`
abbrev pub given_found : CommandForm → ArgMatches → Given
given_found form matches = record {
  value = λ name. if has_name form.flags name then None else first_value (found_of matches) name;
  flag = λ name. has_name form.flags name && is_true (first_value (found_of matches) name);
}

-- an answer tells what words give, if they keep the rules
abbrev pub TellsGiven : CommandForm → Result ArgMatches RequestFault → Option Given → Type 0
TellsGiven form (Ok matches) given = given ≡ Some (given_found form matches)
TellsGiven form (Err Usage) given = given ≡ None
TellsGiven form (Err NoMemory) given = Unit {0}

-- Settings

-- an answer tells the document of a file
abbrev pub TellsTable : Result (BTreeMap (String Global) Value) ConfigFault → Option Members → Type 0
TellsTable (Ok table) document = document ≡ Some (table_view table)
TellsTable (Err (Bad field)) document = (field ≡ Text) × (document ≡ None)
TellsTable (Err NoMemoryForConfig) document = Unit {0}
