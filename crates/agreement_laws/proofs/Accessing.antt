-- An access on the flat machine and at its tile: by a step that has its line, or when the line comes.
use Rattle.std.proofs.Common.{◌≡◌, ◌≢◌, ℕ, zero, suc, ◌+◌, ◌<◌, ◌≤◌, true, false, List, [], ◌∷◌, map, slice_get, slice_set, Option, Some, None, refl, sym, ap, ◌∙◌, arith, inl, inr, subst}
use Rattle.std.proofs.lemmas.Bool.Decides.{nat_tests}
use Rattle.std.specs.Prelude.{◌/◌, ◌%◌, ◌==◌, option_and_then}
use Rattle.std.specs.Option.{option_map, option_map_or}
use Rattle.std.specs.FinMap.{contains_key}
use Rattle.sim_base.specs.declared.actions.Action.TheVariants.{Exec}
use Rattle.sim_base.specs.declared.lines.LineData.{LineData}
use Rattle.rv_exec.specs.declared.access.Done.{Done}
use Rattle.rv_exec.specs.Access.{Asked}
use Rattle.rv_exec.specs.Registers.{with_register}
use Rattle.rv_hart.specs.declared.reservations.Span.{Span}
use Rattle.rv_hart.specs.Reservation.{span_of, reserved}
use Rattle.rv_hart.specs.Start.{next_pc}
use Rattle.elf_image.specs.Layout.{Setup}
use Rattle.wire_msg.specs.declared.messages.Msg.{Msg}
use Rattle.wire_msg.specs.declared.lines.Want.TheVariants.{Write as ToWrite}
use Rattle.serving.specs.ControlData.{ControlData}
use Rattle.serving.specs.declared.control_data.Fate.{Fate}
use Rattle.flat_machine.specs.declared.threads.Thread.{Thread}
use Rattle.flat_machine.specs.declared.threads.Status.TheVariants.{Ready}
use Rattle.flat_machine.specs.State.{State as Flat}
use Rattle.flat_machine.specs.Reservation.{without_reservation, others_end}
use Rattle.flat_machine.specs.Serving.{fate_of, control_of}
use Rattle.flat_machine.specs.Action.{step_of, executed_by_step, with_change, accessed, completed, written_memory, written_span, act}
use Rattle.tile_node.specs.Tile.{Tile as TileData, done_on, access_want}
use Rattle.control_server.specs.Control.{Control}
use Rattle.event_journal.specs.State.{State}
use Rattle.node_machine.specs.declared.nodes.Node.{Node}
use Rattle.node_machine.specs.declared.nodes.Node.TheVariants.{Tile}
use Rattle.agreement_laws.specs.Phases.{Hart, runs, on}
use Rattle.agreement_laws.specs.Sides.{side_of, place_of}
use Rattle.agreement_laws.specs.Spots.{spot, spot_at}
use Rattle.agreement_laws.specs.Kept.{Kept}
use Rattle.agreement_laws.specs.Whole.{Memory, AgreesOn, StandsToo}
use Rattle.agreement_laws.proofs.Lines.{IsWhole}
use Rattle.agreement_laws.proofs.Moves.{same_is}
use Rattle.agreement_laws.proofs.Threads.{get_set_here, others_here, others_there}
use Rattle.agreement_laws.proofs.Steps.{line_after, AccessAgrees, access_agrees}
use Rattle.agreement_laws.proofs.AtTile.{OthersStay, stays_moves}
use Rattle.agreement_laws.proofs.LocalStep.{exec_is, fates_kept, one_changes}
use Rattle.tile_node.proofs.Facts.{writes_only}
use Rattle.rv_exec.specs.declared.access.AccessOp.{AccessOp}
use Rattle.rv_exec.specs.declared.access.AccessOp.TheVariants.{Load, Store, Lr, Sc, Amo}
use Rattle.rv_hart.specs.Reservation.{reserved_by}
use Rattle.flat_machine.specs.Reservation.{share_byte}
use Rattle.coherence_laws.specs.Part.{copy_at}
use Rattle.coherence_laws.specs.Coherence.{IsWritable, OneWriterOrReaders}
use Rattle.coherence_laws.proofs.Holds.{IsNodeOf}
use Rattle.agreement_laws.specs.Phases.{Going, status_going}
use Rattle.agreement_laws.specs.Sides.{reports_going}
use Rattle.agreement_laws.specs.Whole.{ReservationsHeld, ReservationsStand}
use Rattle.agreement_laws.proofs.Threads.{share_apart}
use Rattle.agreement_laws.proofs.Stand.{change_others, IsAway, stand_after, Made, same_bytes}
use Rattle.agreement_laws.proofs.AtTile.{Elsewhere}
use Rattle.agreement_laws.proofs.GoingOn.{on_thread}
use Rattle.agreement_laws.proofs.Sending.{place_is}

-- what a write ends of others shows in neither status nor place nor fate

without_status : (written : Span) (o : Option Thread) → option_map (λ t. t.status) (option_map (without_reservation written) o) ≡ option_map (λ t. t.status) o
without_status written None = refl
without_status written (Some t) = refl

without_place : (written : Span) (o : Option Thread) → option_and_then place_of (option_map (without_reservation written) o) ≡ option_and_then place_of o
without_place written None = refl
without_place written (Some t) = refl

without_fates : (written : Span) (ts : List Thread) → map fate_of (map (without_reservation written) ts) ≡ map fate_of ts
without_fates written [] = refl
without_fates written (t ∷ ts) = ap (λ gs. fate_of t ∷ gs) (without_fates written ts)

others_fates : (written : Span) (ts : List Thread) (n : ℕ) (own : Thread) → slice_get ts n ≡ Some own → map fate_of (others_end (Some written) ts n) ≡ map fate_of ts
others_fates written ts n own is =
    ap (λ o. map fate_of (option_map_or (λ own. slice_set (map (without_reservation written) ts) n own) o ts)) is
    ∙ (set_same (map (without_reservation written) ts) n own (without_reservation written own) (without_get ts n own is) refl ∙ without_fates written ts)
  where
    without_get : (ts : List Thread) (n : ℕ) (own : Thread) → slice_get ts n ≡ Some own → slice_get (map (without_reservation written) ts) n ≡ Some (without_reservation written own)
    without_get [] n own is = cc
    without_get (t ∷ ts) zero own is = let e : t ≡ own = cc in ap (λ z. Some (without_reservation written z)) e
    without_get (t ∷ ts) (suc n) own is = without_get ts n own is

    set_same : (ts : List Thread) (u : ℕ) (th' th : Thread) → slice_get ts u ≡ Some th → fate_of th' ≡ fate_of th → map fate_of (slice_set ts u th') ≡ map fate_of ts
    set_same ts u th' th is same = fates_kept ts u th th' is same

-- a change by one thread, with what it wrote if anything
pub change_stays : (f : Flat) (u : ℕ) (th : Thread) (memory : Memory) (written : Option Span) (th' : Thread) → slice_get f.threads u ≡ Some th → fate_of th' ≡ fate_of th
    → OthersStay f (with_change f u (record { memory = memory; written = written; thread = th' })) u
    × (slice_get (with_change f u (record { memory = memory; written = written; thread = th' })).threads u ≡ Some th')
change_stays f u th memory None th' is same =
    let one = one_changes f u th th' is same in (record { status = one.status; place = one.place; control = one.control }, get_set_here f.threads u th' th is)
change_stays f u th memory (Some written) th' is same =
    let one = one_changes f u th th' is same in
    let own : slice_get (slice_set f.threads u th') u ≡ Some th' = get_set_here f.threads u th' th is in
    let with : List Fate → ControlData = λ gs. record (control_of f) { fates = gs } in (
      record {
        status = λ y e. ap (option_map (λ t. t.status)) (others_there written (slice_set f.threads u th') u y th' own (apart u y e)) ∙ (without_status written (slice_get (slice_set f.threads u th') y) ∙ one.status y e);
        place = λ y e. ap (option_and_then place_of) (others_there written (slice_set f.threads u th') u y th' own (apart u y e)) ∙ (without_place written (slice_get (slice_set f.threads u th') y) ∙ one.place y e);
        control = ap with (others_fates written (slice_set f.threads u th') u th' own) ∙ one.control;
      },
      others_here written (slice_set f.threads u th') u th' own,
    )
  where
    apart : (x y : ℕ) → (x == y) ≡ false → x ≢ y
    apart x y e = grind (arith, nat_tests)

-- the flat state after an access that is done on its line's value
abbrev pub accessed_flat : Flat → (ℕ → LineData) → ℕ → Thread → Asked → Flat
accessed_flat f value u th access = with_change f u (completed f.memory th access (done_on access (value (access.addr / 64))))

pub record Accessed (w : Setup) (s' : State Node Msg) (c : Control) (f : Flat) (value : ℕ → LineData) (u : ℕ) (access : Asked) : Type 0 where
  pub thread : Thread
  pub is_thread : slice_get f.threads u ≡ Some thread
  pub legal : act w f (Exec u) ≡ Some (accessed_flat f value u thread access)
  pub threads : Kept w s' c (accessed_flat f value u thread access)
  pub bytes : AgreesOn (accessed_flat f value u thread access).memory (line_after value access)

-- a thread whose next step is an access, and whose tile did it on the line's value
pub access_kept : {w : Setup} {s : State Node Msg} {c : Control} {f : Flat} (k : Kept w s c f) (value : ℕ → LineData) (s' : State Node Msg) (x u : ℕ) (regs : List ℕ) (pc : ℕ) (going : Going) (access : Asked)
    → x < w.config.tiles → k.phase u ≡ on (record { tile = x; regs = regs; pc = pc }) going → status_going going ≡ Ready → reports_going x going ≡ None ∷ []
    → ((th : Thread) → slice_get f.threads u ≡ Some th → th.regs ≡ regs → th.pc ≡ pc → th.status ≡ Ready → executed_by_step f.memory th (step_of w u th) ≡ Some (accessed f.memory th access))
    → access.addr % 64 + access.size ≤ 64 → IsWhole (value (access.addr / 64)) → ((i : ℕ) → i < access.size → contains_key f.memory (access.addr + i) ≡ true) → AgreesOn f.memory value
    → Elsewhere w s s' x → spot w s' x ≡ spot_at u (on (record { tile = x; regs = with_register regs access.rd (done_on access (value (access.addr / 64))).value; pc = next_pc pc }) runs)
    → Accessed w s' c f value u access
access_kept {w} {s} {c} {f} k value s' x u regs pc going access low phase status reports does room whole keys agrees elsewhere here =
    let h : Hart = record { tile = x; regs = regs; pc = pc } in
    let done : Done = done_on access (value (access.addr / 64)) in
    let h' : Hart = record { tile = x; regs = with_register regs access.rd done.value; pc = next_pc pc } in
    let there = on_thread k u h going phase in
    let th : Thread = there.thread in
    let ready : th.status ≡ Ready = there.status ∙ status in
    let th' : Thread = (completed f.memory th access done).thread in
    let same : AccessAgrees f.memory value th access = access_agrees w f.memory value th access room whole keys agrees in
    let does' : executed_by_step f.memory th (step_of w u th) ≡ Some (completed f.memory th access done) = does th there.is_thread there.regs there.pc ready ∙ ap Some same.done in
    let g : Flat = with_change f u (completed f.memory th access done) in
    let stays = change_stays f u th (written_memory f.memory access done.write) (written_span access done.write) th' there.is_thread refl in
    let place' : place_of th' ≡ Some h' = place_is th' x (with_register regs access.rd done.value) (next_pc pc) (ap (λ z. with_register z access.rd done.value) there.regs) (ap next_pc there.pc) there.place in
    record {
      thread = th;
      is_thread = there.is_thread;
      legal = exec_is w f u th (completed f.memory th access done) there.is_thread ready does';
      threads =
          stays_moves k s' g x u (on h going) (on h' runs) th' phase refl refl stays.1 stays.0 elsewhere
          (λ host. ap (λ o. record (side_of w u host (on h going)) { status = Some th'.status; place = o }) place'
          ∙ (ap (λ z. record (side_of w u host (on h going)) { status = Some z; place = Some h' }) ready
          ∙ ap (λ rs. record (side_of w u host (on h going)) { status = Some Ready; place = Some h'; reports = rs }) reports)) tt (low, tt, tt) here;
      bytes = same.bytes;
    }

-- RESERVATIONS after an access

too_by : (op : AccessOp) (access : Asked) (here there : Option Span) → StandsToo here there → StandsToo (reserved_by op access here) (reserved_by op access there)
too_by Lr access here there too = λ span e. e
too_by Sc access here there too = λ span e. cc
too_by Load access here there too = too
too_by Store access here there too = too
too_by (Amo op) access here there too = too

written_is : (access : Asked) (write : Option ℕ) (bytes : Span) → written_span access write ≡ Some bytes → (value : ℕ) × (write ≡ Some value) × (span_of access ≡ bytes)
written_is access None bytes e = cc
written_is access (Some value) bytes e = (value, refl, (let same : span_of access ≡ bytes = cc in same))

-- what an access writes is in a line that its tile has to write, so no other tile has a reservation in that line
access_away : (s s' : State Node Msg) (x : ℕ) (access : Asked) (line : LineData) → ReservationsHeld s → ((k : ℕ) → OneWriterOrReaders s' k) → ((y : ℕ) → (y == x) ≡ false → s'.node y ≡ s.node y)
    → access.addr % 64 + access.size ≤ 64 → (access_want access.op ≡ ToWrite → IsWritable (copy_at (s'.node x) (access.addr / 64))) → IsAway s x (written_span access (done_on access line).write)
access_away s s' x access line held writer there room writes = record {
  away = λ y t span bytes far is has written.
      let made = written_is access (done_on access line).write bytes written in
      let mine : IsWritable (copy_at (s'.node x) (access.addr / 64)) = writes (writes_only access _ made.0 made.1) in
      let own = held y t span is has in
      let node : s'.node y ≡ Tile t = there y far ∙ is in
      let theirs : IsWritable (copy_at (s'.node y) (span.addr / 64)) = subst (λ n. IsWritable (copy_at n (span.addr / 64))) (sym node) own.copy in
      let lines : access.addr / 64 ≢ span.addr / 64 = λ same.
      (let other : IsWritable (copy_at (s'.node y) (access.addr / 64)) = subst (λ k. IsWritable (copy_at (s'.node y) k)) (sym same) theirs in
      elim (writer (access.addr / 64) x y mine) [
        | inl one ↦ (let i : (y == y) ≡ true = same_is y in let z : (y == x) ≡ (y == y) = ap (λ a. y == a) one in cc)
        | inr none ↦ subst IsWritable none other
      ]) in
      subst (λ b. share_byte b span ≡ false) made.2 (share_apart (span_of access) span lines room own.room);
}

pub accessed_made : {w : Setup} {s : State Node Msg} {c : Control} {f : Flat} (k : Kept w s c f) (s' : State Node Msg) (x u : ℕ) (t' : TileData) (access : Asked) (value value' : ℕ → LineData) (before : Option Span)
    → ((y : ℕ) → IsNodeOf w y (s.node y)) → ReservationsHeld s → ReservationsStand s f → k.who x ≡ Some u → s'.node x ≡ Tile t' → ((y : ℕ) → (y == x) ≡ false → s'.node y ≡ s.node y)
    → ((line : ℕ) → OneWriterOrReaders s' line) → access.addr % 64 + access.size ≤ 64 → (access_want access.op ≡ ToWrite → IsWritable (copy_at (s'.node x) (access.addr / 64)))
    → t'.core.thread ≡ u → t'.core.reservation ≡ reserved access before → ((th : Thread) → slice_get f.threads u ≡ Some th → StandsToo before th.reservation)
    → ((line : ℕ) → value' line ≡ line_after value access line) → Accessed w s' c f value u access → Made w s' c f value' (Some (Exec u))
accessed_made {w} {s} {c} {f} k s' x u t' access value value' before nodes held stand seat here there writer room writes same reservation too values made =
    let done : Done = done_on access (value (access.addr / 64)) in
    let th' : Thread = (completed f.memory made.thread access done).thread in
    let g : Flat = accessed_flat f value u made.thread access in
    let stays = change_stays f u made.thread (written_memory f.memory access done.write) (written_span access done.write) th' made.is_thread refl in
    record {
      flat = g;
      legal = made.legal;
      threads = made.threads;
      stand = stand_after k s' g x u t' (written_span access done.write) nodes stand seat here there
          (change_others f u made.thread (written_memory f.memory access done.write) (written_span access done.write) th' made.is_thread)
          (access_away s s' x access (value (access.addr / 64)) held writer there room writes)
          (λ th busy at.
          let one : Some th' ≡ Some th = sym stays.1 ∙ (ap (slice_get g.threads) (sym same) ∙ at) in
          let is : th' ≡ th = cc in
          let own : StandsToo (reserved access before) th'.reservation = too_by access.op access before made.thread.reservation (too made.thread made.is_thread) in
          subst (λ z. StandsToo z th.reservation) (sym reservation) (subst (λ (z : Thread). StandsToo (reserved access before) z.reservation) is own));
      bytes = same_bytes g.memory (line_after value access) value' values made.bytes;
    }
