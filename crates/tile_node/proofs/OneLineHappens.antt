-- What may happen at a line, by the copy there and what is waited for.
use Rattle.std.proofs.Common.{◌≡◌, ◌≢◌, ℕ, Bool, true, false, Some, None, refl, sym, ap, ◌∙◌, inl, inr, subst}
use Rattle.std.proofs.lemmas.Bool.{cases_Bool, and_parts, eqb-true}
use Rattle.std.proofs.lemmas.Option.{none-some}
use Rattle.std.specs.Prelude.{Option, slice_index, ◌==◌, ◌&&◌, if◌then◌else◌}
use Rattle.sim_base.specs.declared.lines.LineData.{LineData}
use Rattle.sim_base.specs.LittleEndian.{loaded}
use Rattle.rv_exec.specs.declared.access.AccessOp.{AccessOp}
use Rattle.rv_exec.specs.declared.access.AccessOp.TheVariants.{Load, Store, Lr, Sc, Amo}
use Rattle.rv_exec.specs.Access.{Asked, finish_by}
use Rattle.elf_image.specs.Layout.{Setup}
use Rattle.wire_msg.specs.declared.messages.Msg.{Msg}
use Rattle.wire_msg.specs.declared.messages.Msg.TheVariants.{DataS, DataM, Inv, Fetch, FetchInv}
use Rattle.wire_msg.specs.declared.lines.Want.{Want}
use Rattle.wire_msg.specs.declared.lines.Want.TheVariants.{Read}
use Rattle.wire_msg.specs.Message.{may_send}
use Rattle.tile_core.specs.declared.cores.Status.{Status}
use Rattle.tile_core.specs.declared.cores.Status.TheVariants.{Miss}
use Rattle.tile_core.specs.declared.plans.Plan.{Plan}
use Rattle.tile_core.specs.declared.plans.Plan.TheVariants.{Access}
use Rattle.tile_core.specs.Gathering.{Gathering, is_gathered}
use Rattle.tile_core.specs.Core.{line_missed}
use Rattle.tile_core.specs.Plan.{plan_of}
use Rattle.tile_cache.specs.declared.ways.Hold.{Hold}
use Rattle.tile_cache.specs.declared.ways.Hold.TheVariants.{S, M}
use Rattle.tile_cache.specs.declared.ways.Way.{Way}
use Rattle.tile_cache.specs.Cache.{IsCache, way_of, victim_of}
use Rattle.tile_cache.specs.Copy.{Copy, absent, held_as, copy_in, copy_of}
use Rattle.tile_cache.proofs.CopyLemmas.{victim_is_another, victim_is_held}
use Rattle.tile_node.specs.Tile.{Tile, suits, access_want, place_in_line}
use Rattle.tile_node.specs.Step.{can_step, is_writing, waits_for_limit, looks_around}
use Rattle.tile_node.specs.Deliver.{hold_suits}
use Rattle.tile_node.specs.OneLine.{wants, wants_by, want_for, data_written, data_after, Happening, nothing, hit, asked, came, evicted, at_line, needs, needs_at, follows_at, works_at, leaves_at, data_at, taken_at}
use Rattle.tile_node.specs.OneLineLaws.{MayCome, MayHappen, StepMayHappen, DeliverMayHappen, WantsOne}
use Rattle.tile_node.proofs.OneLineParts.{at_itself, waits_for_nothing}
use Rattle.tile_node.proofs.OneLineDeliver.{wants_other}

may_if : (b : Bool) (h g : Happening) (copy : Copy) (want : Option Want) → (b ≡ true → MayHappen h copy want) → (b ≡ false → MayHappen g copy want)
    → MayHappen (if b then h else g) copy want
may_if true h g copy want one other = one refl
may_if false h g copy want one other = other refl

-- what happens to one line, and what happens to the others
may_else : (t : Tile) (line k : ℕ) (h g : Happening) → MayHappen h (copy_of t.cache line) (wants t line)
    → ((k == line) ≡ false → MayHappen g (copy_of t.cache k) (wants t k))
    → MayHappen (if k == line then h else g) (copy_of t.cache k) (wants t k)
may_else t line k h g here there =
    elim (cases_Bool (k == line)) [
      | inl e ↦ let same : line ≡ k = sym (eqb-true k line e) in rw e (subst (λ n. MayHappen h (copy_of t.cache n) (wants t n)) same here)
      | inr ne ↦ rw ne (there ne)
    ]

-- a load writes nothing
load_writes : (op : AccessOp) (access : Asked) (old : ℕ) → op ≡ Load → (finish_by op access old).write ≡ None
load_writes Load access old e = refl
load_writes Store access old e = cc
load_writes Lr access old e = cc
load_writes Sc access old e = cc
load_writes (Amo op) access old e = cc

load_keeps : (access : Asked) (content : LineData) → access.op ≡ Load → data_after (Some access) content ≡ content
load_keeps access content e =
    ap (λ write. data_written access write content) (load_writes access.op access (loaded (slice_index content.bytes) (place_in_line access.addr) access.size) e)

-- an access on a copy that is there
access_may : (access : Asked) (op : AccessOp) (hold : Hold) (content : LineData) → access.op ≡ op
    → MayHappen (if suits op hold then hit (data_after (Some access)) else asked (access_want op)) (held_as hold content) None
access_may access Load S content e = (load_keeps access content e, refl)
access_may access Load M content e = (tt, refl)
access_may access Store S content e = (refl, refl)
access_may access Store M content e = (tt, refl)
access_may access Lr S content e = (refl, refl)
access_may access Lr M content e = (tt, refl)
access_may access Sc S content e = (refl, refl)
access_may access Sc M content e = (tt, refl)
access_may access (Amo op) S content e = (refl, refl)
access_may access (Amo op) M content e = (tt, refl)

held_may : (access : Option Asked) (hold : Hold) (content : LineData)
    → MayHappen (if hold_suits access hold then hit (data_after access) else asked (want_for access)) (held_as hold content) None
held_may None S content = (refl, refl)
held_may None M content = (tt, refl)
held_may (Some access) hold content = access_may access access.op hold content refl

found_may : (access : Option Asked) (found : Option Way) → MayHappen (needs access found) (copy_in found) None
found_may access None = (tt, refl)
found_may access (Some way) = held_may access way.hold way.content

needs_may : (t : Tile) (access : Option Asked) (k : ℕ) → can_step t ≡ true → MayHappen (needs_at t access k) (copy_of t.cache k) (wants t k)
needs_may t access k can =
    let line : ℕ = line_missed t.core.write access in
    may_else t line k (needs access (way_of t.cache line)) nothing
    (subst (λ want. MayHappen (needs access (way_of t.cache line)) (copy_of t.cache line) want) (sym (waits_for_nothing t.core.write line t.core.status can)) (found_may access (way_of t.cache line)))
    (λ _. tt)

follows_may : (t : Tile) (plan : Plan) (k : ℕ) → can_step t ≡ true → MayHappen (follows_at t plan k) (copy_of t.cache k) (wants t k)
follows_may t (Access access) k can = needs_may t (Some access) k can
follows_may t _ k can = tt

works_may : (w : Setup) (t : Tile) (k : ℕ) → can_step t ≡ true → MayHappen (works_at w t k) (copy_of t.cache k) (wants t k)
works_may w t k can =
    may_if (is_writing t.core.status) _ _ _ _ (λ _. may_if (is_gathered t.core.write) _ _ _ _ (λ _. tt) (λ _. needs_may t None k can))
    (λ _. follows_may t (plan_of w t.core) k can)

pub step_may : StepMayHappen
step_may w t k can =
    may_if (waits_for_limit w.config.policy t.core.clock t.core.limit) _ _ _ _ (λ _. tt)
    (λ _. may_if (looks_around w.config.policy w.config.tiles t.core.clock t.core.next_check) _ _ _ _ (λ _. tt) (λ _. works_may w t k can))

-- a line comes to read only where it is read alone
read_alone : (op : AccessOp) → suits op S ≡ true → access_want op ≡ Read
read_alone Load e = refl
read_alone Store e = cc
read_alone Lr e = cc
read_alone Sc e = cc
read_alone (Amo op) e = cc

reads_alone : (access : Option Asked) → hold_suits access S ≡ true → want_for access ≡ Read
reads_alone None e = refl
reads_alone (Some access) e = read_alone access.op e

came_may : (access : Option Asked) (hold : Hold) (want : Option Want) → want ≡ Some (want_for access) → hold_suits access hold ≡ true → MayCome hold want
came_may access S want e fits = e ∙ ap Some (reads_alone access fits)
came_may access M want e fits = λ none. none-some (want_for access) (sym none ∙ e)

held_there : (hold : Hold) (content : LineData) → held_as hold content ≢ absent
held_there S content = λ e. cc
held_there M content = λ e. cc

victim_may : (t : Tile) (access : Option Asked) (line : ℕ) (victim : Option (ℕ × Hold)) (k : ℕ) → IsCache t.cache → t.core.status ≡ Miss access
    → line_missed t.core.write access ≡ line → victim_of t.cache line ≡ victim → (k == line) ≡ false → MayHappen (leaves_at victim k) (copy_of t.cache k) (wants t k)
victim_may t access line None k h is at e ne = tt
victim_may t access line (Some (victim, hold)) k h is at e ne =
    let held = victim_is_held t.cache line victim hold h e in
    may_else t victim k evicted nothing
    (λ gone. held_there hold held.0 (sym held.1 ∙ gone), wants_other t access line victim is at (victim_is_another t.cache line victim hold e))
    (λ _. tt)

data_may : (t : Tile) (line : ℕ) (hold : Hold) (content : LineData) (status : Status) (k : ℕ) → IsCache t.cache → t.core.status ≡ status
    → MayHappen (data_at t line hold content status k) (copy_of t.cache k) (wants t k)
data_may t line hold content (Miss access) k h is =
    may_if (line_missed t.core.write access == line && hold_suits access hold) _ _ _ _
    (λ fits.
    let parts = and_parts (line_missed t.core.write access == line) (hold_suits access hold) fits in
    let at : line_missed t.core.write access ≡ line = eqb-true (line_missed t.core.write access) line parts.0 in
    may_else t line k (came hold (data_after access content)) (leaves_at (victim_of t.cache line) k)
    (came_may access hold (wants t line) (ap (wants_by t.core.write line) is ∙ ap (λ n. if n == line then Some (want_for access) else None) at ∙ at_itself line _ _) parts.1)
    (λ ne. victim_may t access line (victim_of t.cache line) k h is at refl ne))
    (λ _. tt)
data_may t line hold content _ k h is = tt

one_may : (t : Tile) (line k : ℕ) (h : Happening) → MayHappen h (copy_of t.cache line) (wants t line) → MayHappen (at_line line k h) (copy_of t.cache k) (wants t k)
one_may t line k h here = may_else t line k h nothing here (λ _. tt)

taken_may : (t : Tile) (msg : Msg) (k : ℕ) → IsCache t.cache → MayHappen (taken_at t msg k) (copy_of t.cache k) (wants t k)
taken_may t (DataS line content delay) k h = data_may t line S content t.core.status k h refl
taken_may t (DataM line content delay) k h = data_may t line M content t.core.status k h refl
taken_may t (Inv line) k h = one_may t line k _ tt
taken_may t (Fetch line) k h = one_may t line k _ tt
taken_may t (FetchInv line) k h = one_may t line k _ tt
taken_may t _ k h = tt

pub deliver_may : DeliverMayHappen
deliver_may w t from msg k h = may_if (may_send w.config from t.number msg) _ _ _ _ (λ _. taken_may t msg k h) (λ _. tt)

-- a tile waits for one line at most
missed_line : (write : Gathering) (access : Option Asked) (k : ℕ) → wants_by write k (Miss access) ≢ None → line_missed write access ≡ k
missed_line write access k some =
    elim (cases_Bool (line_missed write access == k)) [
      | inl e ↦ eqb-true (line_missed write access) k e
      | inr ne ↦ absurd (some (rw ne refl))
    ]

one_by : (write : Gathering) (j k : ℕ) (status : Status) → wants_by write j status ≢ None → wants_by write k status ≢ None → j ≡ k
one_by write j k (Miss access) a b = sym (missed_line write access j a) ∙ missed_line write access k b
one_by write j k _ a b = absurd (a refl)

pub wants_one : WantsOne
wants_one t j k a b = one_by t.core.write j k t.core.status a b
