-- What is said, held and waited for at one line: small facts for the laws.
use Rattle.std.proofs.Common.{◌≡◌, ℕ, ◌<◌, Bool, true, false, [], ◌∷◌, length, Some, None, refl, sym, ap, ◌∙◌, inl, inr, subst}
use Rattle.std.proofs.lemmas.Bool.{cases_Bool, eqb-true, eq-eqb, cond-true, cond-false, false_from_ne_true}
use Rattle.std.specs.Prelude.{Option, ◌==◌, if◌then◌else◌}
use Rattle.std.specs.List.{cons_option}
use Rattle.sim_base.specs.declared.lines.LineData.{LineData}
use Rattle.rv_exec.specs.Access.{Asked}
use Rattle.wire_msg.specs.declared.lines.Want.TheVariants.{Read, Write}
use Rattle.wire_msg.specs.declared.lines.Up.{Up}
use Rattle.wire_msg.specs.declared.lines.Up.TheVariants.{Asks, GivesUp, Acknowledges, HandsOver}
use Rattle.wire_msg.specs.declared.messages.Msg.{Msg}
use Rattle.wire_msg.specs.Message.{up_of, is_about, up_about}
use Rattle.tile_core.specs.declared.cores.Status.{Status}
use Rattle.tile_core.specs.declared.cores.Status.TheVariants.{Run, Writing}
use Rattle.tile_core.specs.Gathering.{Gathering}
use Rattle.tile_core.specs.Core.{line_at, line_missed}
use Rattle.tile_cache.specs.declared.ways.Hold.{Hold}
use Rattle.tile_cache.specs.declared.ways.Hold.TheVariants.{S, M}
use Rattle.tile_cache.specs.Cache.{Sets}
use Rattle.tile_cache.specs.Copy.{Copy, absent, shared, modified, held_as, copy_of, with_data}
use Rattle.tile_cache.proofs.CopyLemmas.{write_shows}
use Rattle.tile_node.specs.Tile.{Tile, Act, up_message, place_in_line, done_on, with_written}
use Rattle.tile_node.specs.Step.{steps_in}
use Rattle.tile_node.specs.OneLine.{wants, wants_by, told_about, data_written, data_after, Happening, nothing, at_line}
use Rattle.tile_node.specs.OneLineLaws.{Shows}

-- a test of a line with itself, and with another
pub at_itself : {A : Type 0} (line : ℕ) (x y : A) → (if line == line then x else y) ≡ x
at_itself line x y = cond-true (line == line) x y (eq-eqb line line refl)

pub elsewhere : {A : Type 0} (k line : ℕ) (x y : A) → (k == line) ≡ false → (if k == line then x else y) ≡ y
elsewhere k line x y ne = cond-false (k == line) x y ne

-- a test that is false is false the other way round
pub test_turned : (a b : ℕ) → (a == b) ≡ false → (b == a) ≡ false
test_turned a b e = false_from_ne_true (b == a) (λ same. let turned : (a == b) ≡ true = eq-eqb a b (sym (eqb-true b a same)) in cc)

-- an act whose happening is by a test
pub shows_if : (b : Bool) (t : Tile) (k : ℕ) (x y : Act) (h g : Happening) → (b ≡ true → Shows t k x h) → (b ≡ false → Shows t k y g)
    → Shows t k (if b then x else y) (if b then h else g)
shows_if true t k x y h g here there = here refl
shows_if false t k x y h g here there = there refl

-- what happens to one line, and what happens to the others
pub shows_else : (t : Tile) (line k : ℕ) (act : Act) (h g : Happening) → Shows t line act h → ((k == line) ≡ false → Shows t k act g)
    → Shows t k act (if k == line then h else g)
shows_else t line k act h g here there =
    elim (cases_Bool (k == line)) [
      | inl e ↦ let same : line ≡ k = sym (eqb-true k line e) in rw e (subst (λ n. Shows t n act h) same here)
      | inr ne ↦ rw ne (there ne)
    ]

-- an act that leaves a line alone
pub leaves_lines : (t : Tile) (k : ℕ) (act : Act) → copy_of act.tile.cache k ≡ copy_of t.cache k → told_about k act.mail ≡ [] → wants act.tile k ≡ wants t k
    → Shows t k act nothing
leaves_lines t k act copy told waits = record { copy = copy; told = told; wants = waits }

pub shows_both : (b : Bool) (t : Tile) (k : ℕ) (x y : Act) (h : Happening) → Shows t k x h → Shows t k y h → Shows t k (if b then x else y) h
shows_both true t k x y h one other = one
shows_both false t k x y h one other = other

pub shows_if_at : (b : Bool) (t : Tile) (line k : ℕ) (x y : Act) (h g : Happening) → (b ≡ true → Shows t k x (at_line line k h)) → (b ≡ false → Shows t k y (at_line line k g))
    → Shows t k (if b then x else y) (at_line line k (if b then h else g))
shows_if_at true t line k x y h g here there = here refl
shows_if_at false t line k x y h g here there = there refl

-- a message that says nothing to homes says nothing of a line to its home
pub alike : {A : Type 0} (b : Bool) (x : A) → (if b then x else x) ≡ x
alike true x = refl
alike false x = refl

pub up_none : (k : ℕ) (msg : Msg) → up_of msg ≡ None → up_about k msg ≡ None
up_none k msg e = ap (λ o. if is_about k msg then o else None) e ∙ alike (is_about k msg) None

-- what is told of a line shows there alone
pub up_is : (k line : ℕ) (says : Up) → up_about k (up_message line says) ≡ (if line == k then Some says else None)
up_is k line (Asks Read) = refl
up_is k line (Asks Write) = refl
up_is k line (GivesUp content) = refl
up_is k line Acknowledges = refl
up_is k line (HandsOver content) = refl

pub told_here : (to line : ℕ) (says : Up) → told_about line ((to, up_message line says) ∷ []) ≡ says ∷ []
told_here to line says = ap (λ o. cons_option o []) (up_is line line says ∙ cond-true (line == line) _ _ (eq-eqb line line refl))

pub told_there : (to line k : ℕ) (says : Up) → (k == line) ≡ false → told_about k ((to, up_message line says) ∷ []) ≡ []
told_there to line k says ne = ap (λ o. cons_option o []) (up_is k line says ∙ cond-false (line == k) _ _ (test_turned k line ne))

-- a tile that can step waits for nothing
pub waits_for_nothing : (write : Gathering) (k : ℕ) (status : Status) → steps_in status ≡ true → wants_by write k status ≡ None
waits_for_nothing write k Run e = refl
waits_for_nothing write k Writing e = refl
waits_for_nothing write k _ e = cc

-- a held copy with other data
pub with_held : (change : LineData → LineData) (hold : Hold) (content : LineData) → with_data change (held_as hold content) ≡ held_as hold (change content)
with_held change S content = refl
with_held change M content = refl

with_same : (copy : Copy) → with_data (λ content. content) copy ≡ copy
with_same absent = refl
with_same (shared content) = refl
with_same (modified content) = refl

-- the cache after what waits for a line, or finds it, is done on what it holds
abbrev pub used : Sets → Option Asked → LineData → Sets
used c None content = c
used c (Some access) content = with_written c access (done_on access content).write

-- only the line of an access that writes changes
written_elsewhere : (c : Sets) (access : Asked) (write : Option ℕ) (k : ℕ) → 0 < length c.sets → (k == line_at access.addr) ≡ false
    → copy_of (with_written c access write) k ≡ copy_of c k
written_elsewhere c access None k h ne = refl
written_elsewhere c access (Some value) k h ne = write_shows c (line_at access.addr) (place_in_line access.addr) access.size value k h ∙ elsewhere k _ _ _ ne

written_here : (c : Sets) (access : Asked) (write : Option ℕ) (line : ℕ) → 0 < length c.sets → line_at access.addr ≡ line
    → copy_of (with_written c access write) line ≡ with_data (data_written access write) (copy_of c line)
written_here c access None line h e = sym (with_same (copy_of c line))
written_here c access (Some value) line h e =
    write_shows c (line_at access.addr) (place_in_line access.addr) access.size value line h ∙ cond-true (line == line_at access.addr) _ _ (eq-eqb line (line_at access.addr) (sym e))

-- the line that was needed, after that, and every other line
pub used_here : (c : Sets) (write : Gathering) (access : Option Asked) (line : ℕ) (hold : Hold) (content : LineData) → 0 < length c.sets
    → line_missed write access ≡ line → copy_of c line ≡ held_as hold content → copy_of (used c access content) line ≡ held_as hold (data_after access content)
used_here c write None line hold content h at e = e
used_here c write (Some access) line hold content h at e =
    written_here c access (done_on access content).write line h at ∙ ap (with_data (data_written access (done_on access content).write)) e
    ∙ with_held (data_written access (done_on access content).write) hold content

pub used_there : (c : Sets) (write : Gathering) (access : Option Asked) (line k : ℕ) (content : LineData) → 0 < length c.sets
    → line_missed write access ≡ line → (k == line) ≡ false → copy_of (used c access content) k ≡ copy_of c k
used_there c write None line k content h at ne = refl
used_there c write (Some access) line k content h at ne = written_elsewhere c access (done_on access content).write k h (ap (λ n. k == n) at ∙ ne)
