-- What messages say of a line: those of a list to one node, the first of a list, and what a tile tells elsewhere.
use Rattle.std.proofs.Common.{◌≡◌, ◌≢◌, ℕ, Bool, true, false, List, [], ◌∷◌, Some, None, ◌==◌, if◌then◌else◌, refl, sym, ap, ◌∙◌, inl, inr}
use Rattle.std.proofs.lemmas.Bool.{cases_Bool, cond-true, cond-false}
use Rattle.std.proofs.lemmas.List.Elements.{All-head, All-tail, All-weaker}
use Rattle.std.specs.Prelude.{Option, All, ◌⊎◌}
use Rattle.std.specs.List.{cons_option}
use Rattle.std.specs.Option.{option_map_or}
use Rattle.sim_base.specs.Numbering.{home_of}
use Rattle.elf_image.specs.Layout.{Setup}
use Rattle.wire_msg.specs.declared.messages.Msg.{Msg}
use Rattle.wire_msg.specs.declared.messages.Msg.TheVariants.{GetS, GetM, PutM, InvAck, FetchAck}
use Rattle.wire_msg.specs.declared.lines.Want.TheVariants.{Read, Write}
use Rattle.wire_msg.specs.declared.lines.Up.{Up}
use Rattle.wire_msg.specs.declared.lines.Up.TheVariants.{Asks, GivesUp, Acknowledges, HandsOver}
use Rattle.wire_msg.specs.Message.{line_of, up_of, down_of, is_about, up_about, down_about, ups, downs}
use Rattle.tile_node.specs.OneLine.{told_about}
use Rattle.tile_node.specs.OneLineLaws.{IsToldTo, GoesHome, GoesRightly}
use Rattle.event_journal.specs.State.{messages_to}
use Rattle.event_journal.proofs.Views.{first_to, alike, SaysNone, silent_to}
use Rattle.coherence_laws.proofs.Nodes.{equal, itself}

-- a message about another line, or about none
pub about_none : (k : ℕ) (msg : Msg) → line_of msg ≡ None → (up_about k msg ≡ None) × (down_about k msg ≡ None)
about_none k msg e = (cc, cc)

pub about_other : (j k : ℕ) (msg : Msg) → line_of msg ≡ Some j → (j == k) ≡ false → (up_about k msg ≡ None) × (down_about k msg ≡ None)
about_other j k msg e t = (cc, cc)

pub up_nothing : (k : ℕ) (msg : Msg) → up_of msg ≡ None → up_about k msg ≡ None
up_nothing k msg e = ap (λ o. if is_about k msg then o else None) e ∙ alike (is_about k msg) None

pub down_nothing : (k : ℕ) (msg : Msg) → down_of msg ≡ None → down_about k msg ≡ None
down_nothing k msg e = ap (λ o. if is_about k msg then o else None) e ∙ alike (is_about k msg) None

-- a message says something to a home, of one line, or nothing to homes
pub up_or_not : (msg : Msg) → ((line : ℕ) × (says : Up) × (line_of msg ≡ Some line) × (up_of msg ≡ Some says) × (down_of msg ≡ None)) ⊎ (up_of msg ≡ None)
up_or_not (GetS line) = inl (line, Asks Read, refl, refl, refl)
up_or_not (GetM line) = inl (line, Asks Write, refl, refl, refl)
up_or_not (PutM line content) = inl (line, GivesUp content, refl, refl, refl)
up_or_not (InvAck line) = inl (line, Acknowledges, refl, refl, refl)
up_or_not (FetchAck line content) = inl (line, HandsOver content, refl, refl, refl)
up_or_not _ = inr refl

pub option_or_none : {A : Type 0} (o : Option A) → (o ≡ None) ⊎ ((a : A) × (o ≡ Some a))
option_or_none None = inl refl
option_or_none (Some a) = inr (a, refl)

-- a message that says something of a line from its home is about that line
said_of : {A : Type 0} (b : Bool) (o : Option A) → (if b then o else None) ≢ None → b ≡ true
said_of true o some = refl
said_of false o some = absurd (some refl)

about_is : (line : ℕ) (o : Option ℕ) → option_map_or (λ n. n == line) o false ≡ true → o ≡ Some line
about_is line None e = cc
about_is line (Some n) e = ap Some (equal n line e)

pub down_line : (line : ℕ) (msg : Msg) → down_about line msg ≢ None → line_of msg ≡ Some line
down_line line msg some = about_is line (line_of msg) (said_of (is_about line msg) (down_of msg) some)

-- a home's word about a line comes from the line's home
abbrev pub IsFromHome : Setup → ℕ → Msg → Type 0
IsFromHome w from msg = (line : ℕ) → down_about line msg ≢ None → from ≡ home_of w.config line

-- what a tile says to the lines' homes goes there: nothing of it to others

goes_silently : (w : Setup) (k y : ℕ) (m : ℕ × Msg) → y ≢ home_of w.config k → GoesHome w m → SaysNone (up_about k) y m
goes_silently w k y m ne goes = λ to. elim (option_or_none (up_about k m.1)) [
  | inl none ↦ none
  | inr some ↦ absurd (ne (sym to ∙ goes k some.0 some.1))
]

pub goes_elsewhere : (w : Setup) (mail : List (ℕ × Msg)) (k y : ℕ) → y ≢ home_of w.config k → All (GoesHome w) mail → ups k (messages_to y mail) ≡ []
goes_elsewhere w mail k y ne goes = silent_to (up_about k) y mail (All-weaker (GoesHome w) (SaysNone (up_about k) y) (λ m g. goes_silently w k y m ne g) mail goes)

-- and all of it to them
pub goes_home : (w : Setup) (mail : List (ℕ × Msg)) (k : ℕ) → All (GoesHome w) mail → ups k (messages_to (home_of w.config k) mail) ≡ told_about k mail
goes_home w [] k goes = refl
goes_home w (m ∷ mail) k goes =
    let home : ℕ = home_of w.config k in
    let rest : ups k (messages_to home mail) ≡ told_about k mail = goes_home w mail k (All-tail (GoesHome w) m mail goes) in
    first_to (up_about k) home m mail ∙ elim (cases_Bool (m.0 == home)) [
      | inl t ↦ cond-true (m.0 == home) _ _ t ∙ ap (cons_option (up_about k m.1)) rest
      | inr t ↦
          let none : up_about k m.1 ≡ None = elim (option_or_none (up_about k m.1)) [
            | inl none ↦ none
            | inr some ↦
                let there : (m.0 == home) ≡ true = ap (λ n. n == home) (All-head (GoesHome w) m mail goes k some.0 some.1) ∙ itself home in
                absurd (not_both (m.0 == home) there t)
          ] in
          cond-false (m.0 == home) _ _ t ∙ rest ∙ sym (ap (λ o. cons_option o (told_about k mail)) none)
    ]
  where
    not_both : (b : Bool) → b ≡ true → b ≡ false → ⊥
    not_both true t f = cc
    not_both false t f = cc

answers_home : (w : Setup) (from : ℕ) (msg : Msg) (to line : ℕ) (says : Up) → IsFromHome w from msg → IsToldTo w from msg to line says → to ≡ home_of w.config line
answers_home w from msg to line (Asks want) home e = e
answers_home w from msg to line (GivesUp content) home e = e
answers_home w from msg to line Acknowledges home e = e.0 ∙ home line e.1
answers_home w from msg to line (HandsOver content) home e = e.0 ∙ home line e.1

pub rightly_home : (w : Setup) (from : ℕ) (msg : Msg) (m : ℕ × Msg) → IsFromHome w from msg → GoesRightly w from msg m → GoesHome w m
rightly_home w from msg m home goes line says e = answers_home w from msg m.0 line says home (goes line says e)

-- nothing is said from a home
pub says_nothing_down : (k y : ℕ) (mail : List (ℕ × Msg)) → All (λ m. down_of m.1 ≡ None) mail → downs k (messages_to y mail) ≡ []
says_nothing_down k y mail all =
    silent_to (down_about k) y mail (All-weaker (λ (m : ℕ × Msg). down_of m.1 ≡ None) (SaysNone (down_about k) y) (λ m none to. down_nothing k m.1 none) mail all)
