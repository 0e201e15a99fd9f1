-- What an event leaves of reservations on the flat machine; and what each event that commits has to give.
use Rattle.std.proofs.Common.{◌≡◌, ◌≢◌, ℕ, ◌<◌, true, false, slice_get, slice_set, Option, Some, None, refl, sym, ap, ◌∙◌, arith, inl, inr, subst}
use Rattle.std.proofs.lemmas.Bool.Decides.{nat_tests}
use Rattle.std.proofs.lemmas.Bool.{cases_Bool}
use Rattle.std.specs.Prelude.{◌==◌, ◌/◌, ◌%◌, slice_index}
use Rattle.std.specs.Option.{option_map}
use Rattle.sim_base.specs.declared.actions.Action.{Action}
use Rattle.sim_base.specs.declared.lines.LineData.{LineData}
use Rattle.elf_image.specs.Layout.{Setup}
use Rattle.wire_msg.specs.declared.messages.Msg.{Msg}
use Rattle.rv_hart.specs.declared.reservations.Span.{Span}
use Rattle.flat_machine.specs.declared.threads.Thread.{Thread}
use Rattle.flat_machine.specs.State.{State as Flat, with_thread}
use Rattle.flat_machine.specs.Reservation.{share_byte, unless_written, without_reservation}
use Rattle.flat_machine.specs.Action.{with_change, act}
use Rattle.tile_core.specs.declared.cores.Status.TheVariants.{Idle}
use Rattle.tile_node.specs.Tile.{Tile as TileData}
use Rattle.control_server.specs.Control.{Control}
use Rattle.event_journal.specs.State.{State}
use Rattle.node_machine.specs.declared.nodes.Node.{Node}
use Rattle.node_machine.specs.declared.nodes.Node.TheVariants.{Tile}
use Rattle.coherence_laws.proofs.Holds.{IsNodeOf}
use Rattle.agreement_laws.specs.Spots.{Sitting, sitting_in, core_in, Spot, spot_at, spot_of}
use Rattle.agreement_laws.specs.Kept.{Kept}
use Rattle.agreement_laws.specs.Whole.{Memory, AgreesOn, StandsToo, ReservationsStand, acted}
use Rattle.agreement_laws.proofs.Moves.{equal}
use Rattle.agreement_laws.proofs.Reading.{nobody_idle, seats, shown}
use Rattle.agreement_laws.proofs.Threads.{get_set_there, get_set_here, others_there, reservation_stays}

-- what a write of another thread leaves of a reservation
abbrev pub left : Option Span → Option Span → Option Span
left None old = old
left (Some written) old = unless_written written old

-- one thread changed, and wrote these bytes if any: each other one is there as before, but for its reservation
pub record IsOther (f : Flat) (y : ℕ) (written : Option Span) (th' : Thread) : Type 0 where
  pub thread : Thread
  pub is_thread : slice_get f.threads y ≡ Some thread
  pub reservation : th'.reservation ≡ left written thread.reservation

pub record Others (f g : Flat) (u : ℕ) (written : Option Span) : Type 0 where
  pub other : (y : ℕ) (th' : Thread) → (u == y) ≡ false → slice_get g.threads y ≡ Some th' → IsOther f y written th'

apart : (x y : ℕ) → (x == y) ≡ false → x ≢ y
apart x y e = grind (arith, nat_tests)

pub set_others : (f g : Flat) (u : ℕ) (th' : Thread) → g.threads ≡ slice_set f.threads u th' → Others f g u None
set_others f g u th' made = record {
  other = λ y there e is. record { thread = there; is_thread = sym (ap (λ ts. slice_get ts y) made ∙ get_set_there f.threads u y th' (apart u y e)) ∙ is; reservation = refl };
}

of_map : (written : Span) (o : Option Thread) (th' : Thread) → option_map (without_reservation written) o ≡ Some th' → (th : Thread) × (o ≡ Some th) × (th'.reservation ≡ unless_written written th.reservation)
of_map written None th' e = cc
of_map written (Some th) th' e = let same : without_reservation written th ≡ th' = cc in (th, refl, ap (λ (z : Thread). z.reservation) (sym same))

pub change_others : (f : Flat) (u : ℕ) (th : Thread) (memory : Memory) (written : Option Span) (th' : Thread) → slice_get f.threads u ≡ Some th
    → Others f (with_change f u (record { memory = memory; written = written; thread = th' })) u written
change_others f u th memory None th' is = set_others f (with_change f u (record { memory = memory; written = None; thread = th' })) u th' refl
change_others f u th memory (Some written) th' is = record {
  other = λ y there e here.
      let own : slice_get (slice_set f.threads u th') u ≡ Some th' = get_set_here f.threads u th' th is in
      let found = of_map written (slice_get (slice_set f.threads u th') y) there (sym (others_there written (slice_set f.threads u th') u y th' own (apart u y e)) ∙ here) in
      record { thread = found.0; is_thread = sym (get_set_there f.threads u y th' (apart u y e)) ∙ found.1; reservation = found.2 };
}

-- who sits on a busy tile is its core's thread
pub who_sits : {w : Setup} {s : State Node Msg} {c : Control} {f : Flat} (k : Kept w s c f) (y : ℕ) (t : TileData) → y < w.config.tiles → s.node y ≡ Tile t → t.core.status ≢ Idle → k.who y ≡ Some t.core.thread
who_sits {w} {s} {c} {f} k y t low is busy = by_who (k.who y) refl where
  sits : sitting_in y t.core ≡ (spot_of k.phase (k.who y)).sitting
  sits = sym (ap (λ n. sitting_in y (core_in n)) is) ∙ ap (λ (z : Spot). z.sitting) (k.spots y low)

  by_sitting : (u : ℕ) (o : Option Sitting) → k.who y ≡ Some u → sitting_in y t.core ≡ o → (spot_at u (k.phase u)).sitting ≡ o → k.who y ≡ Some t.core.thread
  by_sitting u None e here there = absurd (busy (nobody_idle y t.core here))
  by_sitting u (Some x) e here there = e ∙ ap Some (sym (shown w c.control.ended u (k.phase u) x (k.fit u) there).thread ∙ sym (seats y t.core x here).thread)

  by_who : (o : Option ℕ) → k.who y ≡ o → k.who y ≡ Some t.core.thread
  by_who None e = absurd (busy (nobody_idle y t.core (sits ∙ ap (λ o. (spot_of k.phase o).sitting) e)))
  by_who (Some u) e = by_sitting u (sitting_in y t.core) e refl (sym (sits ∙ ap (λ o. (spot_of k.phase o).sitting) e))

pub seated_apart : {w : Setup} {s : State Node Msg} {c : Control} {f : Flat} (k : Kept w s c f) (x y u : ℕ) (t : TileData) → k.who x ≡ Some u → y < w.config.tiles → (y == x) ≡ false → s.node y ≡ Tile t → t.core.status ≢ Idle
    → (u == t.core.thread) ≡ false
seated_apart {w} {s} {c} {f} k x y u t seat low far is busy = elim (cases_Bool (u == t.core.thread)) [
  | inl same ↦
      let there : k.who y ≡ Some u = who_sits k y t low is busy ∙ ap Some (sym (equal u t.core.thread same)) in
      let one : Some x ≡ Some y = sym (k.stands u x seat) ∙ k.stands u y there in
      let at : x ≡ y = cc in
      let z : (y == x) ≡ (y == y) = ap (λ a. y == a) at in
      let i : (y == y) ≡ true = grind (arith, nat_tests) in cc
  | inr other ↦ other
]

-- what a tile's event leaves: its own thread's reservation stands, and what it wrote ends no other tile's
left_stands : (written old : Option Span) (span : Span) → ((bytes : Span) → written ≡ Some bytes → share_byte bytes span ≡ false) → old ≡ Some span → left written old ≡ Some span
left_stands None old span away e = e
left_stands (Some bytes) old span away e = ap (unless_written bytes) e ∙ reservation_stays bytes span (away bytes refl)

pub record IsAway (s : State Node Msg) (x : ℕ) (written : Option Span) : Type 0 where
  pub away : (y : ℕ) (t : TileData) (span bytes : Span) → (y == x) ≡ false → s.node y ≡ Tile t → t.core.reservation ≡ Some span → written ≡ Some bytes → share_byte bytes span ≡ false

pub nothing_away : (s : State Node Msg) (x : ℕ) → IsAway s x None
nothing_away s x = record { away = λ y t span bytes far is has e. cc }

pub stand_after : {w : Setup} {s : State Node Msg} {c : Control} {f : Flat} (k : Kept w s c f) (s' : State Node Msg) (g : Flat) (x u : ℕ) (t' : TileData) (written : Option Span)
    → ((y : ℕ) → IsNodeOf w y (s.node y)) → ReservationsStand s f → k.who x ≡ Some u → s'.node x ≡ Tile t' → ((y : ℕ) → (y == x) ≡ false → s'.node y ≡ s.node y)
    → Others f g u written → IsAway s x written
    → ((th' : Thread) → t'.core.status ≢ Idle → slice_get g.threads t'.core.thread ≡ Some th' → StandsToo t'.core.reservation th'.reservation) → ReservationsStand s' g
stand_after {w} {s} {c} {f} k s' g x u t' written nodes stand seat here there others away own = λ y t th is busy at. elim (cases_Bool (y == x)) [
  | inl same ↦
      let one : Tile t' ≡ Tile t = sym here ∙ (ap s'.node (sym (equal y x same)) ∙ is) in
      let tile : t' ≡ t = cc in
      subst (λ (z : TileData). z.core.status ≢ Idle → slice_get g.threads z.core.thread ≡ Some th → StandsToo z.core.reservation th.reservation) tile (own th) busy at
  | inr far ↦
      let old : s.node y ≡ Tile t = sym (there y far) ∙ is in
      let low : y < w.config.tiles = (subst (IsNodeOf w y) old (nodes y)).0 in
      let one = others.other t.core.thread th (seated_apart k x y u t seat low far old busy) at in
      λ span has. one.reservation ∙ left_stands written one.thread.reservation span (λ bytes e. away.away y t span bytes far old has e) (stand y t one.thread old busy one.is_thread span has)
]

-- WHAT AN EVENT GIVES
pub record Made (w : Setup) (s' : State Node Msg) (c : Control) (f : Flat) (value' : ℕ → LineData) (action : Option Action) : Type 0 where
  pub flat : Flat
  pub legal : acted w f action ≡ Some flat
  pub threads : Kept w s' c flat
  pub stand : ReservationsStand s' flat
  pub bytes : AgreesOn flat.memory value'

pub same_bytes : (memory : Memory) (value value' : ℕ → LineData) → ((k : ℕ) → value' k ≡ value k) → AgreesOn memory value → AgreesOn memory value'
same_bytes memory value value' same agrees = λ a. agrees a ∙ ap (λ (d : LineData). slice_index d.bytes (a % 64)) (sym (same (a / 64)))

-- an action that changes one thread alone
pub record Changed (w : Setup) (s' : State Node Msg) (c : Control) (f : Flat) (u : ℕ) (action : Action) (new : Thread → Thread) : Type 0 where
  pub thread : Thread
  pub is_thread : slice_get f.threads u ≡ Some thread
  pub legal : act w f action ≡ Some (with_thread f u (new thread))
  pub threads : Kept w s' c (with_thread f u (new thread))

pub changed_made : {w : Setup} {s : State Node Msg} {c : Control} {f : Flat} (k : Kept w s c f) (s' : State Node Msg) (x u : ℕ) (t' : TileData) (action : Action) (new : Thread → Thread) (value value' : ℕ → LineData)
    → ((y : ℕ) → IsNodeOf w y (s.node y)) → ReservationsStand s f → k.who x ≡ Some u → s'.node x ≡ Tile t' → ((y : ℕ) → (y == x) ≡ false → s'.node y ≡ s.node y)
    → t'.core.thread ≡ u → ((th : Thread) → slice_get f.threads u ≡ Some th → t'.core.status ≢ Idle → StandsToo t'.core.reservation (new th).reservation)
    → ((line : ℕ) → value' line ≡ value line) → AgreesOn f.memory value → Changed w s' c f u action new → Made w s' c f value' (Some action)
changed_made {w} {s} {c} {f} k s' x u t' action new value value' nodes stand seat here there same own values agrees made =
    let g : Flat = with_thread f u (new made.thread) in
    record {
      flat = g;
      legal = made.legal;
      threads = made.threads;
      stand = stand_after k s' g x u t' None nodes stand seat here there (set_others f g u (new made.thread) refl) (nothing_away s x) (λ th busy at.
          let mine : slice_get g.threads u ≡ Some (new made.thread) = get_set_here f.threads u (new made.thread) made.thread made.is_thread in
          let one : Some (new made.thread) ≡ Some th = sym mine ∙ (ap (slice_get g.threads) (sym same) ∙ at) in
          let is : new made.thread ≡ th = cc in
          subst (λ (z : Thread). StandsToo t'.core.reservation z.reservation) is (own made.thread made.is_thread busy));
      bytes = same_bytes f.memory value value' values agrees;
    }

-- and an event that commits nothing, where the tile's reservation stays
pub silent_made : {w : Setup} {s : State Node Msg} {c : Control} {f : Flat} (k : Kept w s c f) (s' : State Node Msg) (x : ℕ) (t t' : TileData) (value value' : ℕ → LineData)
    → ReservationsStand s f → s.node x ≡ Tile t → s'.node x ≡ Tile t' → ((y : ℕ) → (y == x) ≡ false → s'.node y ≡ s.node y)
    → (t'.core.status ≢ Idle → t.core.status ≢ Idle) → t'.core.thread ≡ t.core.thread → ((span : Span) → t'.core.reservation ≡ Some span → t.core.reservation ≡ Some span)
    → ((line : ℕ) → value' line ≡ value line) → AgreesOn f.memory value → Kept w s' c f → Made w s' c f value' None
silent_made {w} {s} {c} {f} k s' x t t' value value' stand is here there busy same fewer values agrees kept = record {
  flat = f;
  legal = refl;
  threads = kept;
  stand = λ y z th at busy' found. elim (cases_Bool (y == x)) [
    | inl e ↦
        let one : Tile t' ≡ Tile z = sym here ∙ (ap s'.node (sym (equal y x e)) ∙ at) in
        let tile : t' ≡ z = cc in
        let found' : slice_get f.threads t.core.thread ≡ Some th = ap (slice_get f.threads) (sym same ∙ ap (λ (q : TileData). q.core.thread) tile) ∙ found in
        λ span has. stand x t th is (busy (subst (λ (q : TileData). q.core.status ≢ Idle) (sym tile) busy')) found' span (fewer span (ap (λ (q : TileData). q.core.reservation) tile ∙ has))
    | inr far ↦ stand y z th (sym (there y far) ∙ at) busy' found
  ];
  bytes = same_bytes f.memory value value' values agrees;
}
