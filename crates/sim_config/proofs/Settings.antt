-- Settings that are not refused are checked, and the keys of a document are those of its map.
use Rattle.std.proofs.Common.{◌≡◌, Bool, true, false, cond, List, [], ◌∷◌, Option, Some, None, map, refl, sym, ap, ◌∙◌, inl, inr, String, Global, string_bytes}
use Rattle.std.specs.Prelude.{◌||◌, not, find}
use Rattle.std.specs.List.{list_any, list_all}
use Rattle.std.specs.Option.{option_map}
use Rattle.std.proofs.lemmas.Bool.{cases_Bool, and_parts, or_parts, true≢false}
use Rattle.toml.specs.declared.value.Value.{Value}
use Rattle.toml.specs.Data.{Members}
use Rattle.toml.specs.View.{members_view}
use Rattle.sim_base.specs.declared.settings.Config.{Config}
use Rattle.sim_base.specs.declared.settings.Field.{Field}
use Rattle.sim_base.specs.Settings.{first_bad, rows, IsChecked}
use Rattle.std.specs.Str.{bytes_eq}
use Rattle.sim_config.specs.SettingsFile.{fields, key_of, first_refused, fits, has_unknown_key, is_found, is_known}

-- a key that is unknown among the keys of a map is one among the members
pub has_unknown_key-view : (entries : List (String Global × Value)) → list_any (λ key. not (is_known (string_bytes key))) (map (λ e. e.0) entries) ≡ has_unknown_key (members_view entries)
has_unknown_key-view [] = refl
has_unknown_key-view (entry ∷ entries) = ap (λ rest. not (is_known (string_bytes entry.0)) || rest) (has_unknown_key-view entries)

-- where no element is found, none passes
none_found : {X : Type 0} (test : X → Bool) (xs : List X) → find test xs ≡ None → list_any test xs ≡ false
none_found test [] e = refl
none_found test (x ∷ xs) e = elim (cases_Bool (test x)) [
  | inl passes ↦ (let some = sym (ap (λ b. cond b (Some x) (find test xs)) passes) ∙ e in cc)
  | inr fails ↦ (let rest = sym (ap (λ b. cond b (Some x) (find test xs)) fails) ∙ e in rw fails (none_found test xs rest))
]

-- what holds of the names of all rows holds of the one that is found
named_passes : (test : Field → Bool) (table : List (Field × Bool)) (setting : Field) → list_all (λ row. test row.0) table ≡ true
    → option_map (λ row. row.0) (find (λ row. not row.1) table) ≡ Some setting → test setting ≡ true
named_passes test [] setting all e = cc
named_passes test ((name, true) ∷ table) setting all e = named_passes test table setting (and_parts _ _ all).1 e
named_passes test ((name, false) ∷ table) setting all e = (let same : name ≡ setting = cc in ap test (sym same) ∙ (and_parts _ _ all).0)

-- a setting that is out of its range is found among all
any_found : (out_of_range : Option Field) (passes : Field → Bool) (settings : List Field)
    → list_any (λ setting. passes setting || is_found out_of_range setting) settings ≡ false → list_any (is_found out_of_range) settings ≡ false
any_found out_of_range passes [] e = refl
any_found out_of_range passes (setting ∷ settings) e =
    let parts = or_parts _ _ e in
    rw ((or_parts (passes setting) (is_found out_of_range setting) parts.0).1) (any_found out_of_range passes settings parts.1)

-- each setting that has a range is among all
pub in_fields : (config : Config) → list_all (λ row. list_any (λ other. bytes_eq (key_of row.0) (key_of other)) fields) (rows config) ≡ true
in_fields config = refl

pub checked : (members : Members) (config : Config) → first_refused members (first_bad config) ≡ None → IsChecked config
checked members config e = go (first_bad config) refl (any_found (first_bad config) (λ setting. not (fits members setting)) fields (none_found (λ setting. not (fits members setting) || is_found (first_bad config) setting) fields e))
  where
    go : (bad : Option Field) → first_bad config ≡ bad → list_any (is_found (first_bad config)) fields ≡ false → first_bad config ≡ None
    go None is none = is
    go (Some setting) is none =
        let found = named_passes (λ name. list_any (λ other. bytes_eq (key_of name) (key_of other)) fields) (rows config) setting (in_fields config) is in
        absurd (true≢false (sym found ∙ (sym (ap (λ bad. list_any (is_found bad) fields) is) ∙ none)))
