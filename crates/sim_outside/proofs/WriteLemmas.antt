-- What the names of files in memory hold once one of them was written.
use Rattle.std.proofs.Common.{◌≡◌, ℕ, ◌⊎◌, Bool, true, false, cond, List, [], ◌∷◌, ◌++◌, length, set, get_or, nat_lt, position, find, bytes_eq, string_bytes, String, Vec, Option, Some, None, option_map, refl, sym, ap, ◌∙◌, inl, inr, arith}
use Rattle.std.proofs.Math.Path.{fun_ext}
use Rattle.std.proofs.lemmas.Bool.{cases_Bool, cases_lt}
use Rattle.std.proofs.lemmas.Bool.Decides.{nat_tests}
use Rattle.std.proofs.lemmas.List.Folds.{find_at, find-set, find_past, find-append}
use Rattle.std.proofs.lemmas.List.Quantifiers.{position-Some}
use Rattle.std.proofs.lemmas.Option.{cond_some, slice_get_past}
use Rattle.std.proofs.lemmas.Slice.Eq.{bytes_eq-Decides}
use Rattle.std.specs.List.{position_or_len}
use Rattle.std.specs.Option.{option_or}
use Rattle.std.specs.declared.alloc.Global.{Global}
use Rattle.sim_outside.specs.Memory.{held}
use Rattle.sim_outside.specs.Told.{with_file}

-- a file in memory, and whether it has this name
abbrev pub File : Type 0
File = String Global × Vec ℕ Global

abbrev pub has_name : List ℕ → File → Bool
has_name name file = bytes_eq (string_bytes file.0) name

-- a file of one name has no other
has_no_other : (file : File) (name other : List ℕ) → has_name name file ≡ true → bytes_eq other name ≡ false → has_name other file ≡ false
has_no_other file name other is differs = elim (cases_Bool (has_name other file)) [
  | inl has ↦
      let one : string_bytes file.0 ≡ name = (bytes_eq-Decides (string_bytes file.0) name).0 is in
      let two : string_bytes file.0 ≡ other = (bytes_eq-Decides (string_bytes file.0) other).0 has in
      let equal : bytes_eq other name ≡ true = (bytes_eq-Decides other name).1 (sym two ∙ one) in
      cc
  | inr lacks ↦ lacks
]

-- no place, nothing found
none_found : {X : Type 0} (p : X → Bool) (xs : List X) → position p xs ≡ None → find p xs ≡ None
none_found p xs none = elim (cases_lt (position_or_len p xs) (length xs)) [
  | inl under ↦
      let t : nat_lt (position_or_len p xs) (length xs) ≡ true = grind (arith, nat_tests) in
      let wrong : Some (position_or_len p xs) ≡ None = rw t at none in
      cc
  | inr over ↦ find_at p xs ∙ slice_get_past xs (position_or_len p xs) over
]

option_or_none : {X : Type 0} (o : Option X) → option_or o None ≡ o
option_or_none None = refl
option_or_none (Some x) = refl

-- the new file has the name: it is written over the first of that name, or comes last where there is none
module _ (files : List File) (name : List ℕ) (file : File) (is : has_name name file ≡ true) where
  held-set : (place : ℕ) (d : File) → position (has_name name) files ≡ Some place
      → held (set files place file) ≡ with_file (held files) name file.1.items
  held-set place d at = fun_ext (λ other. by other (cases_Bool (bytes_eq other name)))
    where
      by : (other : List ℕ) → (bytes_eq other name ≡ true) ⊎ (bytes_eq other name ≡ false)
          → held (set files place file) other ≡ with_file (held files) name file.1.items other
      by other (inl e) =
          let same : other ≡ name = (bytes_eq-Decides other name).0 e in
          let first : place ≡ position_or_len (has_name name) files = sym (cond_some (nat_lt (position_or_len (has_name name) files) (length files)) (position_or_len (has_name name) files) place at).1 in
          let found : find (has_name name) (set files place file) ≡ Some file = find-set (has_name name) files place file first (position-Some (has_name name) files place d at).0 is in
          rw e (ap (held (set files place file)) same ∙ ap (option_map (λ (f : File). f.1.items)) found)
      by other (inr e) =
          let old : has_name other (get_or files place d) ≡ false = has_no_other (get_or files place d) name other (position-Some (has_name name) files place d at).1 e in
          let past : find (has_name other) (set files place file) ≡ find (has_name other) files = find_past (has_name other) files place file d old (has_no_other file name other is e) in
          rw e (ap (option_map (λ (f : File). f.1.items)) past)

  held-append : position (has_name name) files ≡ None → held (files ++ file ∷ []) ≡ with_file (held files) name file.1.items
  held-append none = fun_ext (λ other. by other (cases_Bool (bytes_eq other name)))
    where
      by : (other : List ℕ) → (bytes_eq other name ≡ true) ⊎ (bytes_eq other name ≡ false)
          → held (files ++ file ∷ []) other ≡ with_file (held files) name file.1.items other
      by other (inl e) =
          let same : other ≡ name = (bytes_eq-Decides other name).0 e in
          let last : find (has_name name) (file ∷ []) ≡ Some file = ap (λ b. cond b (Some file) None) is in
          let found : find (has_name name) (files ++ file ∷ []) ≡ Some file =
          find-append (has_name name) files (file ∷ []) ∙ ap (λ o. option_or o (find (has_name name) (file ∷ []))) (none_found (has_name name) files none) ∙ last in
          rw e (ap (held (files ++ file ∷ [])) same ∙ ap (option_map (λ (f : File). f.1.items)) found)
      by other (inr e) =
          let last : find (has_name other) (file ∷ []) ≡ None = ap (λ b. cond b (Some file) None) (has_no_other file name other is e) in
          let found : find (has_name other) (files ++ file ∷ []) ≡ find (has_name other) files =
          find-append (has_name other) files (file ∷ []) ∙ ap (option_or (find (has_name other) files)) last ∙ option_or_none (find (has_name other) files) in
          rw e (ap (option_map (λ (f : File). f.1.items)) found)

module _ (files : List File) (name bytes : List ℕ) (copy : Vec ℕ Global) (copied : copy.items ≡ bytes) where
  -- the first of that name gets the bytes
  pub written_over : (place : ℕ) (old : File) → position (has_name name) files ≡ Some place → old ≡ get_or files place old
      → held (set files place (old.0, copy)) ≡ with_file (held files) name bytes
  written_over place old at read =
      let is : has_name name old ≡ true = ap (has_name name) read ∙ (position-Some (has_name name) files place old at).1 in
      held-set files name (old.0, copy) is place old at ∙ ap (with_file (held files) name) copied

  -- a new one of that name comes last
  pub added_last : (text : String Global) → position (has_name name) files ≡ None → string_bytes text ≡ name
      → held (files ++ (text, copy) ∷ []) ≡ with_file (held files) name bytes
  added_last text none named =
      let is : has_name name (text, copy) ≡ true = (bytes_eq-Decides (string_bytes text) name).1 named in
      held-append files name (text, copy) is none ∙ ap (with_file (held files) name) copied
