-- What a tile that goes on is to its thread's phase, and a thread that turns to something else on its tile.
use Rattle.std.proofs.Common.{◌≡◌, ℕ, ◌<◌, Bool, true, false, List, slice_get, Option, Some, None, refl, sym, ap, ◌∙◌}
use Rattle.std.specs.Prelude.{slice_index}
use Rattle.std.specs.Option.{option_map}
use Rattle.rv_exec.specs.Access.{Asked}
use Rattle.elf_image.specs.Layout.{Setup}
use Rattle.wire_msg.specs.declared.messages.Msg.{Msg}
use Rattle.flat_machine.specs.declared.threads.Thread.{Thread}
use Rattle.flat_machine.specs.State.{State as Flat}
use Rattle.tile_core.specs.declared.cores.TileCore.{TileCore}
use Rattle.tile_core.specs.declared.cores.Status.{Status}
use Rattle.tile_core.specs.declared.cores.Status.TheVariants.{Idle, Run, Miss, Called, Writing, AtBarrier, Probing, Trapped}
use Rattle.tile_core.specs.Gathering.{Gathering}
use Rattle.tile_node.specs.Tile.{Tile as TileData}
use Rattle.tile_node.specs.Step.{steps_in, is_writing}
use Rattle.control_server.specs.Control.{Control}
use Rattle.event_journal.specs.State.{State}
use Rattle.node_machine.specs.declared.nodes.Node.{Node}
use Rattle.node_machine.specs.declared.nodes.Node.TheVariants.{Tile}
use Rattle.agreement_laws.specs.Phases.{Hart, Work, executes, gathers, Report, Going, runs, misses, writes, misses_byte, stops, probes, Phase, on, tile_of, status_going}
use Rattle.agreement_laws.specs.Sides.{Side, side_of, place_of}
use Rattle.agreement_laws.specs.Spots.{Stance, running, missing, writing, missing_byte, stopped, probing, called, trapped_there, Sitting, work_in, stance_in, sitting_in, core_in, Spot, spot, spot_at, spot_of, stance_going}
use Rattle.agreement_laws.specs.Kept.{KnowsTile, Fit, Kept}
use Rattle.agreement_laws.proofs.Reading.{IsThread, thread_by}
use Rattle.agreement_laws.proofs.AtTile.{Elsewhere, stays_moves}
use Rattle.agreement_laws.proofs.LocalStep.{is_runs}
use Rattle.agreement_laws.proofs.Sending.{place_is}

-- WHO GOES ON on a tile
abbrev pub goes_on : Stance → Bool
goes_on called = false
goes_on trapped_there = false
goes_on _ = true

pub record Goes (phase : ℕ → Phase) (x : ℕ) (core : TileCore) (stance : Stance) : Type 0 where
  pub going : Going
  pub phase_is : phase core.thread ≡ on (record { tile = x; regs = core.regs; pc = core.pc }) going
  pub stance_is : stance_going going ≡ stance

on_stance : (u : ℕ) (p : Phase) (thread : ℕ) (h : Hart) (stance : Stance) → goes_on stance ≡ true → (spot_at u p).sitting ≡ Some (record { thread = thread; hart = h; stance = stance })
    → (going : Going) × (u ≡ thread) × (p ≡ on h going) × (stance_going going ≡ stance)
on_stance u (on g going) thread h stance goes e =
    let same : record { thread = u; hart = g; stance = stance_going going } ≡ record { thread = thread; hart = h; stance = stance } = cc in
    (going, ap (λ (z : Sitting). z.thread) same, ap (λ z. on z going) (ap (λ (z : Sitting). z.hart) same), ap (λ (z : Sitting). z.stance) same)
on_stance u _ thread h stance goes e = let z = ap (option_map {U = Stance} (λ (x : Sitting). x.stance)) e in cc

pub goes_here : {w : Setup} {s : State Node Msg} {c : Control} {f : Flat} (k : Kept w s c f) (x : ℕ) (t : TileData) (stance : Stance) → x < w.config.tiles → s.node x ≡ Tile t → stance_in t.core.status t.core.write ≡ Some stance
    → goes_on stance ≡ true → Goes k.phase x t.core stance
goes_here {w} {s} {c} {f} k x t stance low is here goes = by_who (k.who x) refl where
  sits : (spot_of k.phase (k.who x)).sitting ≡ Some (record { thread = t.core.thread; hart = record { tile = x; regs = t.core.regs; pc = t.core.pc }; stance = stance })
  sits =
      sym (ap (λ (z : Spot). z.sitting) (k.spots x low)) ∙ (ap (λ n. sitting_in x (core_in n)) is
      ∙ ap (option_map {U = Sitting} (λ stance. record { thread = t.core.thread; hart = record { tile = x; regs = t.core.regs; pc = t.core.pc }; stance = stance })) here)

  by_who : (o : Option ℕ) → k.who x ≡ o → Goes k.phase x t.core stance
  by_who None e = let z = sym (ap (λ o. (spot_of k.phase o).sitting) e) ∙ sits in cc
  by_who (Some u) e =
      let r = on_stance u (k.phase u) t.core.thread (record { tile = x; regs = t.core.regs; pc = t.core.pc }) stance goes (sym (ap (λ o. (spot_of k.phase o).sitting) e) ∙ sits) in
      record { going = r.0; phase_is = ap k.phase (sym r.1) ∙ r.2; stance_is = r.3 }

pub is_writes : (going : Going) (write : Gathering) → stance_going going ≡ writing write → going ≡ writes write
is_writes (writes g) write e = let same : g ≡ write = cc in ap writes same
is_writes runs write e = cc
is_writes (misses access) write e = cc
is_writes (misses_byte g) write e = cc
is_writes (stops work report) write e = cc
is_writes (probes work partner replies) write e = cc

pub is_misses : (going : Going) (access : Asked) → stance_going going ≡ missing access → going ≡ misses access
is_misses (misses a) access e = let same : a ≡ access = cc in ap misses same
is_misses runs access e = cc
is_misses (writes write) access e = cc
is_misses (misses_byte write) access e = cc
is_misses (stops work report) access e = cc
is_misses (probes work partner replies) access e = cc

pub is_misses_byte : (going : Going) (write : Gathering) → stance_going going ≡ missing_byte write → going ≡ misses_byte write
is_misses_byte (misses_byte g) write e = let same : g ≡ write = cc in ap misses_byte same
is_misses_byte runs write e = cc
is_misses_byte (misses access) write e = cc
is_misses_byte (writes g) write e = cc
is_misses_byte (stops work report) write e = cc
is_misses_byte (probes work partner replies) write e = cc

pub is_stops : (going : Going) (work : Work) → stance_going going ≡ stopped work → (report : Report) × (going ≡ stops work report)
is_stops (stops v report) work e = let same : v ≡ work = cc in (report, ap (λ z. stops z report) same)
is_stops runs work e = cc
is_stops (misses access) work e = cc
is_stops (writes write) work e = cc
is_stops (misses_byte write) work e = cc
is_stops (probes v partner replies) work e = cc

pub is_probes : (going : Going) (work : Work) (partner replies : ℕ) → stance_going going ≡ probing work partner replies → going ≡ probes work partner replies
is_probes (probes v p r) work partner replies e = let a : v ≡ work = cc in let b : p ≡ partner = cc in let d : r ≡ replies = cc in cc
is_probes runs work partner replies e = cc
is_probes (misses access) work partner replies e = cc
is_probes (writes write) work partner replies e = cc
is_probes (misses_byte write) work partner replies e = cc
is_probes (stops v report) work partner replies e = cc

-- its flat thread, and its tile's spot
pub on_thread : {w : Setup} {s : State Node Msg} {c : Control} {f : Flat} (k : Kept w s c f) (u : ℕ) (h : Hart) (going : Going) → k.phase u ≡ on h going → IsThread f u (status_going going) h
on_thread {w} {s} {c} {f} k u h going phase =
    thread_by f u (slice_get f.threads u) (status_going going) h refl
    (ap (λ (z : Side). z.status) (k.sides u 0 ∙ ap (side_of w u 0) phase)) (ap (λ (z : Side). z.place) (k.sides u 0 ∙ ap (side_of w u 0) phase))

pub spot_on : {w : Setup} {s : State Node Msg} {c : Control} {f : Flat} (k : Kept w s c f) (x u : ℕ) (p : Phase) → x < w.config.tiles → k.phase u ≡ p → tile_of p ≡ Some x → spot w s x ≡ spot_at u p
spot_on {w} {s} {c} {f} k x u p low phase at = k.spots x low ∙ (ap (spot_of k.phase) (k.sits u x (ap tile_of phase ∙ at)) ∙ ap (spot_at u) phase)

-- A THREAD THAT TURNS to something else on its tile, with nothing changed on the flat machine or at the servers
pub turns : {w : Setup} {s : State Node Msg} {c : Control} {f : Flat} (k : Kept w s c f) (s' : State Node Msg) (x u : ℕ) (regs : List ℕ) (pc : ℕ) (going : Going) (p' : Phase)
    → k.phase u ≡ on (record { tile = x; regs = regs; pc = pc }) going → tile_of p' ≡ Some x → Elsewhere w s s' x
    → ((host : ℕ) → side_of w u host (on (record { tile = x; regs = regs; pc = pc }) going) ≡ side_of w u host p') → KnowsTile p' (slice_index c.callers u) → Fit w c.control.ended p'
    → spot w s' x ≡ spot_at u p' → Kept w s' c f
turns {w} {s} {c} {f} k s' x u regs pc going p' phase at' elsewhere same knows fit here =
    let h : Hart = record { tile = x; regs = regs; pc = pc } in
    let there = on_thread k u h going phase in
    let th : Thread = there.thread in
    stays_moves k s' f x u (on h going) p' th phase refl at' there.is_thread (record { status = λ y e. refl; place = λ y e. refl; control = refl }) elsewhere
    (λ host. ap (λ z. record (side_of w u host (on h going)) { status = Some z; place = place_of th }) there.status
    ∙ (ap (λ o. record (side_of w u host (on h going)) { place = o }) (place_is th x regs pc there.regs there.pc there.place) ∙ same host)) knows fit here

-- A TILE THAT CAN STEP runs, or reads the bytes of a write
abbrev pub begins : Work → Going
begins executes = runs
begins (gathers write) = writes write

pub record Works (phase : ℕ → Phase) (x : ℕ) (core : TileCore) : Type 0 where
  pub work : Work
  pub phase_is : phase core.thread ≡ on (record { tile = x; regs = core.regs; pc = core.pc }) (begins work)
  pub work_is : work_in (is_writing core.status) core.write ≡ work

pub writes_here : {w : Setup} {s : State Node Msg} {c : Control} {f : Flat} (k : Kept w s c f) (x : ℕ) (t : TileData) → x < w.config.tiles → s.node x ≡ Tile t → t.core.status ≡ Writing
    → k.phase t.core.thread ≡ on (record { tile = x; regs = t.core.regs; pc = t.core.pc }) (writes t.core.write)
writes_here k x t low is so =
    let goes = goes_here k x t (writing t.core.write) low is (ap (λ z. stance_in z t.core.write) so) refl in
    goes.phase_is ∙ ap (on (record { tile = x; regs = t.core.regs; pc = t.core.pc })) (is_writes goes.going t.core.write goes.stance_is)

pub works_here : {w : Setup} {s : State Node Msg} {c : Control} {f : Flat} (k : Kept w s c f) (x : ℕ) (t : TileData) → x < w.config.tiles → s.node x ≡ Tile t → steps_in t.core.status ≡ true → Works k.phase x t.core
works_here {w} {s} {c} {f} k x t low is can = by_status t.core.status refl can where
  by_status : (status : Status) → t.core.status ≡ status → steps_in status ≡ true → Works k.phase x t.core
  by_status Run e can =
      let goes = goes_here k x t running low is (ap (λ z. stance_in z t.core.write) e) refl in
      record {
        work = executes;
        phase_is = goes.phase_is ∙ ap (on (record { tile = x; regs = t.core.regs; pc = t.core.pc })) (is_runs goes.going goes.stance_is);
        work_is = ap (λ z. work_in (is_writing z) t.core.write) e;
      }
  by_status Writing e can = record { work = gathers t.core.write; phase_is = writes_here k x t low is e; work_is = ap (λ z. work_in (is_writing z) t.core.write) e }
  by_status Idle e can = cc
  by_status (Miss access) e can = cc
  by_status Called e can = cc
  by_status (AtBarrier b) e can = cc
  by_status (Probing b partner replies) e can = cc
  by_status Trapped e can = cc
