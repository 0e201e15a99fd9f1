-- Words that keep the rules of a form end clap's walk well, with what they use.
use Rattle.std.proofs.Common.{◌≡◌, ℕ, ◌+◌, Bool, true, false, cond, List, [], ◌∷◌, ◌++◌, Option, Some, None, refl, sym, ap, ◌∙◌, subst, inl, inr, append-nil, append_assoc, min}
use Rattle.std.specs.Prelude.{◌||◌, not, is_some}
use Rattle.std.specs.List.{list_any, fold}
use Rattle.std.specs.Option.{option_map_or}
use Rattle.std.specs.Str.{bytes_eq}
use Rattle.std.proofs.lemmas.Bool.{cases_Bool, and_from, and_parts, or_cases, or_from, or_left, or_parts, or_right, not-true, true≢false}
use Rattle.std.proofs.lemmas.List.Folds.{list_any-append}
use Rattle.std.proofs.lemmas.Option.{same_Some}
use Rattle.clap.specs.Lexer.{usize_max}
use Rattle.clap.specs.Takes.{walk_passes}
use Rattle.clap.specs.Walk.{Held, Rule, Walk, Waiting, arg_by_id, arg_by_long, has_row, idle, option as waiting_option, reacted, walked}
use Rattle.sim_config.specs.Words.{CommandForm, Uses, dashed_name, has_name, is_plain, is_use_of, next_dashed, next_positional, uses_from, with_dashed, with_flag, with_option, with_use}
use Rattle.sim_config.specs.Inner.{FindsFlags, FindsOptions, FindsPositionals, are_apart, flag, option}
use Rattle.sim_config.proofs.Names.{apart_from, lacks_right, one_name, other_name_too, same_name}
use Rattle.sim_config.proofs.Walks.{Goes, Holds, goes_attached, goes_flag, goes_option, goes_positional, goes_value, has_row-last, holds_attached, holds_flag, holds_new, is_long, pending, place, rows, shape}

-- where the walk stands, by what was read of the words: nothing is awaited, or an option's value is
abbrev held_at : List Rule → Held → Option (List ℕ) → Held
held_at rules h None = h
held_at rules h (Some name) = pending rules name [] h

abbrev waiting_at : Option (List ℕ) → Waiting
waiting_at None = idle
waiting_at (Some name) = waiting_option name

-- a use has no value exactly where it is a flag's
abbrev IsMarked : List (List ℕ) → List ℕ × Option (List ℕ) → Type 0
IsMarked flags pair = is_some pair.1 ≡ not (has_name flags pair.0)

abbrev pub AreMarked : List (List ℕ) → Uses → Type 0
AreMarked flags [] = Unit {0}
AreMarked flags (pair ∷ uses) = IsMarked flags pair × AreMarked flags uses

marked-last : (flags : List (List ℕ)) (done : Uses) (pair : List ℕ × Option (List ℕ)) → AreMarked flags done → IsMarked flags pair → AreMarked flags (done ++ pair ∷ [])
marked-last flags [] pair marked mark = (mark, tt)
marked-last flags (first ∷ done) pair marked mark = (marked.0, marked-last flags done pair marked.1 mark)

-- an option or a flag that is used here: it wasn't used before, and isn't used again
pub record IsNew (dashed : List (List ℕ)) (done : Uses) (words : List (List ℕ)) (name : List ℕ) : Type 0 where
  pub is_dashed : has_name dashed name ≡ true
  pub new : has_row name (rows done) ≡ false
  pub once : list_any (is_use_of name) words ≡ false

-- an option that awaits its value is new, and one of the form's
pub record Awaits (dashed options : List (List ℕ)) (done : Uses) (words : List (List ℕ)) (name : List ℕ) : Type 0 where
  pub is_new : IsNew dashed done words name
  pub is_option : has_name options name ≡ true

abbrev MayAwait : List (List ℕ) → List (List ℕ) → Uses → List (List ℕ) → Option (List ℕ) → Type 0
MayAwait dashed options done words None = Unit {0}
MayAwait dashed options done words (Some name) = Awaits dashed options done words name

-- between two words: what was used so far, the positionals that are left, what is held, and the words to come
pub record Between (dashed flags : List (List ℕ)) (rules : List Rule) (done : Uses) (left : List (List ℕ)) (position : ℕ) (h : Held) (words : List (List ℕ)) : Type 0 where
  pub holds : Holds rules done h
  pub finds : FindsPositionals rules position left
  pub marked : AreMarked flags done
  pub once : (name : List ℕ) → has_name dashed name ≡ true → has_row name (rows done) ≡ true → list_any (is_use_of name) words ≡ false
  pub fresh : (name : List ℕ) → has_name left name ≡ true → has_row name (rows done) ≡ false
  pub apart : are_apart left dashed ≡ true

-- from a place, the words end with these uses
pub record Ends (flags : List (List ℕ)) (rules : List Rule) (done : Uses) (w : Walk) (words : List (List ℕ)) : Type 0 where
  pub passes : walk_passes (shape rules) [] w words ≡ true
  pub held : Holds rules done (fold (walked rules []) w words).held
  pub stopped : (fold (walked rules []) w words).stopped ≡ None
  pub marked : AreMarked flags done

module _ (flags : List (List ℕ)) (rules : List Rule) where
  ends_after : (done : Uses) (w after : Walk) (word : List ℕ) (words : List (List ℕ)) → Goes rules w word after → Ends flags rules done after words → Ends flags rules done w (word ∷ words)
  unfolding walk_passes
  ends_after done w after word words it rest = record {
    passes = and_from _ _ it.passes (ap (λ v. walk_passes (shape rules) [] v words) it.goes ∙ rest.passes);
    held = subst (λ (v : Walk). Holds rules done (fold (walked rules []) v words).held) (sym it.goes) rest.held;
    stopped = ap (λ (v : Walk). (fold (walked rules []) v words).stopped) it.goes ∙ rest.stopped;
    marked = rest.marked;
  }

  -- the rest of the words after one that used a name
  more_uses : (done : Uses) (pair : List ℕ × Option (List ℕ)) (more : Uses) (w : Walk) (words : List (List ℕ)) → Ends flags rules ((done ++ pair ∷ []) ++ more) w words → Ends flags rules (done ++ pair ∷ more) w words
  more_uses done pair more w words it = subst (λ all. Ends flags rules all w words) (append_assoc done (pair ∷ []) more) it

  -- an argument of one's own
  option_found : (names : List (List ℕ)) → FindsOptions rules names → (name : List ℕ) → has_name names name ≡ true
      → (arg_by_long rules name ≡ Some (option name)) × (arg_by_id rules name ≡ Some (option name))
  option_found [] finds name has = absurd (true≢false (sym has))
  option_found (first ∷ names) finds name has = elim (cases_Bool (bytes_eq first name)) [
    | inl same ↦ subst (λ n. (arg_by_long rules n ≡ Some (option n)) × (arg_by_id rules n ≡ Some (option n))) (one_name first name same) (finds.0, finds.1)
    | inr other ↦ option_found names finds.2 name (ap (λ b. b || has_name names name) (sym other) ∙ has)
  ]

  flag_found : (names : List (List ℕ)) → FindsFlags rules names → (name : List ℕ) → has_name names name ≡ true → arg_by_long rules name ≡ Some (flag name)
  flag_found [] finds name has = absurd (true≢false (sym has))
  flag_found (first ∷ names) finds name has = elim (cases_Bool (bytes_eq first name)) [
    | inl same ↦ subst (λ n. arg_by_long rules n ≡ Some (flag n)) (one_name first name same) finds.0
    | inr other ↦ flag_found names finds.1 name (ap (λ b. b || has_name names name) (sym other) ∙ has)
  ]

module _ (dashed flags : List (List ℕ)) (rules : List Rule) where
  -- a word less to come
  between_less : (done : Uses) (left : List (List ℕ)) (position : ℕ) (h : Held) (word : List ℕ) (words : List (List ℕ))
      → Between dashed flags rules done left position h (word ∷ words) → Between dashed flags rules done left position h words
  between_less done left position h word words it = record {
    holds = it.holds;
    finds = it.finds;
    marked = it.marked;
    once = λ name has row. (or_parts (is_use_of name word) (list_any (is_use_of name) words) (it.once name has row)).1;
    fresh = it.fresh;
    apart = it.apart;
  }

  -- after the next positional
  between_positional : (done : Uses) (name : List ℕ) (left : List (List ℕ)) (position : ℕ) (h : Held) (word : List ℕ) (words : List (List ℕ))
      → Between dashed flags rules done (name ∷ left) position h (word ∷ words) → has_name flags name ≡ false
      → Between dashed flags rules (done ++ (name, Some word) ∷ []) left (min (position + 1) usize_max) (pending rules name (word ∷ []) h) words
  between_positional done name left position h word words it no_flag =
      let parts = and_parts _ _ it.apart in
      let later = and_parts _ _ parts.1 in
      let no_option = not-true (has_name dashed name) later.0 in
      let not_left = not-true (has_name left name) parts.0 in
      let new = it.fresh name (or_left _ _ (same_name name)) in
      record {
        holds = holds_new rules done h name word None (Some position) it.holds it.finds.1 new;
        finds = it.finds.2;
        marked = marked-last flags done (name, Some word) it.marked (sym (ap not no_flag));
        once = λ other has row. elim (or_cases _ _ (sym (has_row-last other (name, Some word) done) ∙ row)) [
          | inl before ↦ (or_parts (is_use_of other word) (list_any (is_use_of other) words) (it.once other has before)).1
          | inr same ↦ absurd (true≢false (sym has ∙ (ap (has_name dashed) (sym (one_name name other same)) ∙ no_option)))
        ];
        fresh = λ other has.
            has_row-last other (name, Some word) done
            ∙ or_from _ _ (it.fresh other (or_right _ _ has)) (other_name_too left name other not_left has);
        apart = later.1;
      }

  -- after an option's value, or a flag
  between_dashed : (done : Uses) (pair : List ℕ × Option (List ℕ)) (left : List (List ℕ)) (position : ℕ) (h after : Held) (word : List ℕ) (words : List (List ℕ))
      → Between dashed flags rules done left position h (word ∷ words) → IsNew dashed done words pair.0 → IsMarked flags pair → Holds rules (done ++ pair ∷ []) after
      → Between dashed flags rules (done ++ pair ∷ []) left position after words
  between_dashed done pair left position h after word words it is_new mark holds =
      let name = pair.0 in
      let not_left = apart_from left dashed it.apart name is_new.is_dashed in
      record {
        holds = holds;
        finds = it.finds;
        marked = marked-last flags done pair it.marked mark;
        once = λ other has row. elim (or_cases _ _ (sym (has_row-last other pair done) ∙ row)) [
          | inl before ↦ (or_parts (is_use_of other word) (list_any (is_use_of other) words) (it.once other has before)).1
          | inr same ↦ ap (λ n. list_any (is_use_of n) words) (sym (one_name name other same)) ∙ is_new.once
        ];
        fresh = λ other has.
            has_row-last other pair done
            ∙ or_from _ _ (it.fresh other has) (other_name_too left name other not_left has);
        apart = it.apart;
      }

module _ (form : CommandForm) (rules : List Rule) (options : FindsOptions rules form.options) (flags : FindsFlags rules form.flags)
    (flags_apart : are_apart form.flags form.options ≡ true) (named : has_name (form.options ++ form.flags) [] ≡ false) where
  abbrev dashed : List (List ℕ)
  dashed = form.options ++ form.flags

  -- the words that are left end well, from every place from which they keep the rules
  abbrev Rest : List (List ℕ) → Type 0
  Rest words = (awaited : Option (List ℕ)) (left : List (List ℕ)) (position : ℕ) (h : Held) (done uses : Uses)
      → Between dashed form.flags rules done left position h words → MayAwait dashed form.options done words awaited
      → uses_from form left awaited words ≡ Some uses
      → Ends form.flags rules (done ++ uses) (place rules (held_at rules h awaited) (waiting_at awaited) position) words

  -- one more use, before the others
  use_first : (name : List ℕ) (content : Option (List ℕ)) (others : Option Uses) (uses : Uses) → with_use name content others ≡ Some uses
      → (more : Uses) × (others ≡ Some more) × ((name, content) ∷ more ≡ uses)
  use_first name content None uses e = cc
  use_first name content (Some more) uses e = (more, refl, same_Some _ _ e)

  -- an argument that was used goes on with the rest
  goes_on : (words : List (List ℕ)) → Rest words → (word name : List ℕ) (content : Option (List ℕ)) (others : List (List ℕ)) (next : ℕ) (w : Walk) (after : Held) (done uses : Uses)
      → Goes rules w word (place rules after idle next) → Between dashed form.flags rules (done ++ (name, content) ∷ []) others next after words
      → with_use name content (uses_from form others None words) ≡ Some uses → Ends form.flags rules (done ++ uses) w (word ∷ words)
  goes_on words rest word name content others next w after done uses goes between e =
      let parts = use_first name content (uses_from form others None words) uses e in
      let later = rest None others next after (done ++ (name, content) ∷ []) parts.0 between tt parts.1 in
      ends_after form.flags rules (done ++ uses) w (place rules after idle next) word words goes
      (subst (λ all. Ends form.flags rules (done ++ all) (place rules after idle next) words) parts.2
      (more_uses form.flags rules done (name, content) parts.0 (place rules after idle next) words later))

  from_positional : (words : List (List ℕ)) → Rest words → (left : List (List ℕ)) (word : List ℕ) (position : ℕ) (h : Held) (done uses : Uses)
      → is_plain word ≡ true → Between dashed form.flags rules done left position h (word ∷ words)
      → next_positional left word (λ others. uses_from form others None words) ≡ Some uses
      → Ends form.flags rules (done ++ uses) (place rules h idle position) (word ∷ words)
  from_positional words rest [] word position h done uses plain it e = cc
  from_positional words rest (name ∷ left) word position h done uses plain it e =
      let no_dashed = not-true (has_name dashed name) (and_parts _ _ (and_parts _ _ it.apart).1).0 in
      goes_on words rest word name (Some word) left (min (position + 1) usize_max) (place rules h idle position) (pending rules name (word ∷ []) h) done uses
      (goes_positional rules word name position done h plain it.holds it.finds.0)
      (between_positional dashed form.flags rules done name left position h word words it (lacks_right form.options form.flags name no_dashed)) e

  -- a name that no later word uses is new
  is_new : (words : List (List ℕ)) (left : List (List ℕ)) (word name : List ℕ) (content : Option (List ℕ)) (position : ℕ) (h : Held) (done : Uses)
      → dashed_name word ≡ Some (name, content) → list_any (is_use_of name) words ≡ false → has_name dashed name ≡ true
      → Between dashed form.flags rules done left position h (word ∷ words) → IsNew dashed done words name
  is_new words left word name content position h done is once has it =
      let uses : is_use_of name word ≡ true = ap (λ o. option_map_or (λ pair. bytes_eq pair.0 name) o false) is ∙ same_name name in
      record {
        is_dashed = has;
        new = elim (cases_Bool (has_row name (rows done))) [
          | inl row ↦ absurd (true≢false (sym uses ∙ (or_parts (is_use_of name word) (list_any (is_use_of name) words) (it.once name has row)).0))
          | inr none ↦ none
        ];
        once = once;
      }

  -- a name that begins with dashes isn't empty
  has_letters : (name : List ℕ) → has_name dashed name ≡ true → name ≡ [] → ⊥
  has_letters name has empty = true≢false (sym has ∙ (ap (has_name dashed) empty ∙ named))

  from_option : (words : List (List ℕ)) → Rest words → (left : List (List ℕ)) (word name : List ℕ) (content : Option (List ℕ)) (position : ℕ) (h : Held) (done uses : Uses)
      → dashed_name word ≡ Some (name, content) → has_name form.options name ≡ true → IsNew dashed done words name
      → Between dashed form.flags rules done left position h (word ∷ words)
      → with_option name content (λ awaited. uses_from form left awaited words) ≡ Some uses
      → Ends form.flags rules (done ++ uses) (place rules h idle position) (word ∷ words)
  from_option words rest left word name None position h done uses is has new it e =
      let long = is_long word name None is (has_letters name new.is_dashed) in
      let own = option_found form.flags rules form.options options name has in
      ends_after form.flags rules (done ++ uses) (place rules h idle position) (place rules (pending rules name [] h) (waiting_option name) position) word words
      (goes_option rules word name position done h long it.holds own.0)
      (rest (Some name) left position h done uses (between_less dashed form.flags rules done left position h word words it) (record { is_new = new; is_option = has }) e)
  from_option words rest left word name (Some []) position h done uses is has new it e = cc
  from_option words rest left word name (Some (byte ∷ bytes)) position h done uses is has new it e =
      let long = is_long word name (Some (byte ∷ bytes)) is (has_letters name new.is_dashed) in
      let own = option_found form.flags rules form.options options name has in
      goes_on words rest word name (Some (byte ∷ bytes)) left position (place rules h idle position) (reacted rules (option name) ((byte ∷ bytes) ∷ []) h) done uses
      (goes_attached rules word name (byte ∷ bytes) position done h long it.holds new.new own.0)
      (between_dashed dashed form.flags rules done (name, Some (byte ∷ bytes)) left position h (reacted rules (option name) ((byte ∷ bytes) ∷ []) h) word words it new
      (sym (ap not (apart_from form.flags form.options flags_apart name has)))
      (holds_attached rules done h name (byte ∷ bytes) it.holds new.new)) e

  from_flag : (words : List (List ℕ)) → Rest words → (left : List (List ℕ)) (word name : List ℕ) (content : Option (List ℕ)) (position : ℕ) (h : Held) (done uses : Uses)
      → dashed_name word ≡ Some (name, content) → has_name form.flags name ≡ true → IsNew dashed done words name
      → Between dashed form.flags rules done left position h (word ∷ words)
      → with_flag name content (uses_from form left None words) ≡ Some uses
      → Ends form.flags rules (done ++ uses) (place rules h idle position) (word ∷ words)
  from_flag words rest left word name (Some content) position h done uses is has new it e = cc
  from_flag words rest left word name None position h done uses is has new it e =
      let long = is_long word name None is (has_letters name new.is_dashed) in
      goes_on words rest word name None left position (place rules h idle position) (reacted rules (flag name) [] h) done uses
      (goes_flag rules word name position done h long it.holds new.new (flag_found form.flags rules form.flags flags name has))
      (between_dashed dashed form.flags rules done (name, None) left position h (reacted rules (flag name) [] h) word words it new (sym (ap not has))
      (holds_flag rules done h name it.holds new.new)) e

  from_name : (words : List (List ℕ)) → Rest words → (left : List (List ℕ)) (word name : List ℕ) (content : Option (List ℕ)) (position : ℕ) (h : Held) (done uses : Uses)
      → dashed_name word ≡ Some (name, content) → list_any (is_use_of name) words ≡ false → Between dashed form.flags rules done left position h (word ∷ words)
      → with_dashed form name content (λ awaited. uses_from form left awaited words) ≡ Some uses
      → Ends form.flags rules (done ++ uses) (place rules h idle position) (word ∷ words)
  from_name words rest left word name content position h done uses is once it e =
      let as_flag : Bool → Option Uses = λ b. cond b (with_flag name content (uses_from form left None words)) None in
      let as_option : Bool → Option Uses = λ b. cond b (with_option name content (λ awaited. uses_from form left awaited words)) (as_flag (has_name form.flags name)) in
      elim (cases_Bool (has_name form.options name)) [
        | inl has ↦
            from_option words rest left word name content position h done uses is has
            (is_new words left word name content position h done is once (list_any-append (λ other. bytes_eq other name) form.options form.flags ∙ or_left _ _ has) it) it
            (sym (ap as_option has) ∙ e)
        | inr lacks ↦ elim (cases_Bool (has_name form.flags name)) [
          | inl has ↦
              from_flag words rest left word name content position h done uses is has
              (is_new words left word name content position h done is once (list_any-append (λ other. bytes_eq other name) form.options form.flags ∙ or_right _ _ has) it) it
              (sym (ap as_option lacks ∙ ap as_flag has) ∙ e)
          | inr none ↦ (let nothing : None ≡ Some uses = sym (ap as_option lacks ∙ ap as_flag none) ∙ e in cc)
        ]
      ]

  from_dashed : (words : List (List ℕ)) → Rest words → (left : List (List ℕ)) (word : List ℕ) (read : Option (List ℕ × Option (List ℕ))) (position : ℕ) (h : Held) (done uses : Uses)
      → dashed_name word ≡ read → Between dashed form.flags rules done left position h (word ∷ words)
      → next_dashed form words read (λ awaited. uses_from form left awaited words) ≡ Some uses
      → Ends form.flags rules (done ++ uses) (place rules h idle position) (word ∷ words)
  from_dashed words rest left word None position h done uses is it e = cc
  from_dashed words rest left word (Some (name, content)) position h done uses is it e =
      let tells : Bool → Option Uses = λ b. cond b None (with_dashed form name content (λ awaited. uses_from form left awaited words)) in
      elim (cases_Bool (list_any (is_use_of name) words)) [
        | inl again ↦ (let none : None ≡ Some uses = sym (ap tells again) ∙ e in cc)
        | inr once ↦ from_name words rest left word name content position h done uses is once it (sym (ap tells once) ∙ e)
      ]

  from_value : (words : List (List ℕ)) → Rest words → (left : List (List ℕ)) (word name : List ℕ) (position : ℕ) (h : Held) (done uses : Uses)
      → is_plain word ≡ true → Between dashed form.flags rules done left position h (word ∷ words) → Awaits dashed form.options done (word ∷ words) name
      → with_use name (Some word) (uses_from form left None words) ≡ Some uses
      → Ends form.flags rules (done ++ uses) (place rules (pending rules name [] h) (waiting_option name) position) (word ∷ words)
  from_value words rest left word name position h done uses plain it waits e =
      let own = option_found form.flags rules form.options options name waits.is_option in
      let new = waits.is_new in
      let still : IsNew dashed done words name = record {
        is_dashed = new.is_dashed;
        new = new.new;
        once = (or_parts (is_use_of name word) (list_any (is_use_of name) words) new.once).1;
      } in
      goes_on words rest word name (Some word) left position (place rules (pending rules name [] h) (waiting_option name) position) (pending rules name (word ∷ []) h) done uses
      (goes_value rules word name position done h plain own.1)
      (between_dashed dashed form.flags rules done (name, Some word) left position h (pending rules name (word ∷ []) h) word words it still
      (sym (ap not (apart_from form.flags form.options flags_apart name waits.is_option)))
      (holds_new rules done h name word (Some name) None it.holds own.1 new.new)) e

  -- words that keep the rules end well
  pub ends : (words : List (List ℕ)) → Rest words
  unfolding walk_passes
  ends [] None left position h done uses it waits e =
      let nothing : [] ≡ uses = same_Some _ _ e in
      subst (λ all. Ends form.flags rules (done ++ all) (place rules h idle position) []) nothing (record {
        passes = refl;
        held = subst (λ all. Holds rules all h) (sym (append-nil done)) it.holds;
        stopped = refl;
        marked = subst (AreMarked form.flags) (sym (append-nil done)) it.marked;
      })
  ends [] (Some name) left position h done uses it waits e = cc
  ends (word ∷ words) (Some name) left position h done uses it waits e =
      let tells : Bool → Option Uses = λ b. cond b (with_use name (Some word) (uses_from form left None words)) None in
      elim (cases_Bool (is_plain word)) [
        | inl plain ↦ from_value words (ends words) left word name position h done uses plain it waits (sym (ap tells plain) ∙ e)
        | inr other ↦ (let none : None ≡ Some uses = sym (ap tells other) ∙ e in cc)
      ]
  ends (word ∷ words) None left position h done uses it waits e =
      let tells : Bool → Option Uses = λ b. cond b (next_positional left word (λ others. uses_from form others None words)) (next_dashed form words (dashed_name word) (λ awaited. uses_from form left awaited words)) in
      elim (cases_Bool (is_plain word)) [
        | inl plain ↦ from_positional words (ends words) left word position h done uses plain it (sym (ap tells plain) ∙ e)
        | inr other ↦ from_dashed words (ends words) left word (dashed_name word) position h done uses refl it (sym (ap tells other) ∙ e)
      ]
