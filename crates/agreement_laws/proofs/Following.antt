-- From what an event gives to what is kept of the run with that event; and the start.
use Rattle.std.proofs.Common.{◌≡◌, ℕ, ◌+◌, ◌≤◌, ◌<◌, Bool, true, false, List, [], ◌∷◌, ◌++◌, ◌&&◌, Option, Some, None, refl, sym, ap, ◌∙◌, arith, inl, inr, subst}
use Rattle.std.proofs.lemmas.Bool.Decides.{nat_tests}
use Rattle.std.proofs.lemmas.Bool.{cases_Bool, cond-true, cond-false}
use Rattle.std.specs.Prelude.{◌%◌, ◌==◌, nat_lt, if◌then◌else◌}
use Rattle.std.specs.FinMap.{contains_key}
use Rattle.sim_base.specs.declared.actions.Action.{Action}
use Rattle.sim_base.specs.declared.lines.LineData.{LineData}
use Rattle.sim_base.specs.Numbering.{node_count, control_node}
use Rattle.sim_base.specs.Settings.{IsChecked}
use Rattle.sim_base.proofs.CheckedSettings.{in_range}
use Rattle.rv_exec.specs.Access.{Asked}
use Rattle.rv_hart.specs.declared.reservations.Span.{Span}
use Rattle.elf_image.specs.Layout.{Setup, initial_line}
use Rattle.wire_msg.specs.declared.messages.Msg.{Msg}
use Rattle.flat_machine.specs.State.{State as Flat}
use Rattle.flat_machine.proofs.MappedLemmas.{mapped_stays}
use Rattle.tile_core.specs.declared.plans.Plan.TheVariants.{Access}
use Rattle.tile_core.specs.Core.{idle_core, begun}
use Rattle.tile_core.specs.Plan.{plan_of}
use Rattle.tile_node.specs.Tile.{Tile as TileData, start_tile, first_core}
use Rattle.tile_node.specs.Step.{steps_in, tile_step}
use Rattle.control_server.specs.Control.{Control, IsOrderly, start_control}
use Rattle.control_server.proofs.Orderly.{started_in_order}
use Rattle.event_journal.specs.declared.events.Event.{Event}
use Rattle.event_journal.specs.declared.events.Event.TheVariants.{Step}
use Rattle.event_journal.specs.State.{State, changed}
use Rattle.event_journal.specs.Rules.{Rules}
use Rattle.event_journal.specs.Run.{IsRun, can_happen, happens, after}
use Rattle.event_journal.proofs.Runs.{after-append}
use Rattle.node_machine.specs.declared.nodes.Node.{Node}
use Rattle.node_machine.specs.declared.nodes.Node.TheVariants.{Tile, Control as ControlNode}
use Rattle.node_machine.specs.Machine.{rules, start_state, start_node, start_server, can_step, node_step, change_of, of_tile}
use Rattle.node_machine.specs.Commits.{event_action}
use Rattle.coherence_laws.specs.Laws.{reached, line_value}
use Rattle.coherence_laws.proofs.Events.{Sound, values_after, event_sound, run_sound, start_sound, values_change}
use Rattle.coherence_laws.proofs.Holds.{IsNodeOf}
use Rattle.agreement_laws.specs.Laws.{IsRunOf}
use Rattle.agreement_laws.specs.Whole.{IsHeld, ReservationsHeld, Whole, acted}
use Rattle.agreement_laws.specs.Parts.{IsWhole, StartIsWhole, WholeAgrees, Follows, TileStepsFollow}
use Rattle.agreement_laws.proofs.Moves.{equal, same_is}
use Rattle.agreement_laws.proofs.LocalStep.{above, node_other}
use Rattle.agreement_laws.proofs.Lines.{line_whole}
use Rattle.agreement_laws.proofs.Stand.{Made, same_bytes}
use Rattle.agreement_laws.proofs.Reserved.{step_held}
use Rattle.agreement_laws.proofs.Pending.{plan_asks}
use Rattle.agreement_laws.proofs.Proper.{step_proper}
use Rattle.agreement_laws.proofs.Mapped.{start_agrees}
use Rattle.agreement_laws.proofs.Starting.{start_kept}
use Rattle.agreement_laws.proofs.Agreeing.{agrees_so}
use Rattle.agreement_laws.proofs.Whole.{All}
use Rattle.agreement_laws.proofs.TileFollows.{step_act}

-- a run with one event more
pub record IsLast {N M : Type 0} (r : Rules N M) (count : ℕ) (s : State N M) (events : List Event) (event : Event) : Type 0 where
  pub run : IsRun r count s events
  pub can : can_happen r count (after r s events) event ≡ true

pub last_happens : {N M : Type 0} (r : Rules N M) (count : ℕ) (s : State N M) (events : List Event) (event : Event) → IsRun r count s (events ++ event ∷ []) → IsLast r count s events event
last_happens r count s [] event run = record { run = tt; can = run.0 }
last_happens r count s (first ∷ events) event run = let rest = last_happens r count (happens r s first) events event run.1 in record { run = (run.0, rest.run); can = rest.can }

-- all that is kept of the state that a run reaches
pub run_all : (w : Setup) (events : List Event) (f : Flat) → IsChecked w.config → IsRunOf w events → IsWhole w events f → All w (reached w events) (line_value w events) f
run_all w events f checked run whole = record {
  sound = run_sound w (node_count w.config) events (start_state w) (initial_line w) (start_sound w checked) (in_range w.config checked).some_tile run;
  lines = line_whole w events;
  whole = whole;
}

-- which addresses are mapped stays
mapped_after : (w : Setup) (f g : Flat) (action : Option Action) (a : ℕ) → acted w f action ≡ Some g → contains_key g.memory a ≡ contains_key f.memory a
mapped_after w f g None a e = let same : f ≡ g = cc in ap (λ (h : Flat). contains_key h.memory a) (sym same)
mapped_after w f g (Some action) a e = mapped_stays w f action g a e

-- WHAT AN EVENT GIVES is the whole of the run with it
pub follows_so : (w : Setup) (events : List Event) (event : Event) (f : Flat) (s' : State Node Msg) (c : Control) → All w (reached w events) (line_value w events) f → happens (rules w) (reached w events) event ≡ s'
    → s'.node (control_node w.config) ≡ ControlNode c → IsOrderly w c → ReservationsHeld s' → Made w s' c f (values_after w (reached w events) event (line_value w events)) (event_action w (reached w events) event)
    → Follows w events event f
follows_so w events event f s' c all is server orderly held made =
    let next : reached w (events ++ event ∷ []) ≡ s' = after-append (rules w) (start_state w) events (event ∷ []) ∙ is in
    let whole : Whole w s' (line_value w (events ++ event ∷ [])) made.flat = record {
      server = c;
      is_server = server;
      orderly = orderly;
      threads = made.threads;
      held = held;
      stand = made.stand;
      bytes = same_bytes made.flat.memory (values_after w (reached w events) event (line_value w events)) (line_value w (events ++ event ∷ [])) (λ k. values_change w events event k) made.bytes;
      mapped = λ a. mapped_after w f made.flat (event_action w (reached w events) event) a made.legal ∙ all.whole.mapped a;
    } in
    (made.flat, made.legal, subst (λ z. Whole w z (line_value w (events ++ event ∷ [])) made.flat) (sym next) whole)

-- STEPS OF TILES
steps_so : (a b c : Bool) → (a && (b && c)) ≡ true → c ≡ true
steps_so true true c e = e
steps_so true false c e = cc
steps_so false b c e = cc

held_after : {w : Setup} {s : State Node Msg} {value : ℕ → LineData} {f : Flat} (a : All w s value f) (x : ℕ) (t : TileData) → s.node x ≡ Tile t → steps_in t.core.status ≡ true
    → ReservationsHeld (changed s x (change_of (of_tile (tile_step w t))))
held_after {w} {s} {value} {f} a x t is can = λ y u span at has. elim (cases_Bool (y == x)) [
  | inl e ↦
      let one : Tile (tile_step w t).tile ≡ Tile u = sym (cond-true (x == x) _ _ (same_is x)) ∙ (ap (λ z. (changed s x (change_of (of_tile (tile_step w t)))).node z) (sym (equal y x e)) ∙ at) in
      let tile : (tile_step w t).tile ≡ u = cc in
      let rooms : (access : Asked) → plan_of w t.core ≡ Access access → access.addr % 64 + access.size ≤ 64 =
      λ access plan. (step_proper w t.core.regs t.core.pc t.core.reservation t.core.thread access (plan_asks w t.core.regs t.core.pc t.core.reservation t.core.thread access plan)).room in
      let node : IsNodeOf w x (Tile t) = subst (IsNodeOf w x) is (a.sound.nodes x) in
      subst (λ z. IsHeld z span) tile (step_held w t can node.2 rooms (λ z own. a.whole.held x t z is own) span (ap (λ (z : TileData). z.core.reservation) tile ∙ has))
  | inr far ↦ a.whole.held y u span (sym (node_other s x (change_of (of_tile (tile_step w t))) y far) ∙ at) has
]

pub tile_steps_follow : TileStepsFollow
tile_steps_follow w events x t f checked run is whole =
    let last = last_happens (rules w) (node_count w.config) (start_state w) events (Step x) run in
    let s : State Node Msg = reached w events in
    let a : All w s (line_value w events) f = run_all w events f checked last.run whole in
    let node : IsNodeOf w x (Tile t) = subst (IsNodeOf w x) is (a.sound.nodes x) in
    let low : x < w.config.tiles = node.0 in
    let can : steps_in t.core.status ≡ true = ap can_step (sym is) ∙ steps_so (nat_lt x (node_count w.config)) (nat_lt (s.made x) w.config.events) (can_step (s.node x)) last.can in
    let s' : State Node Msg = changed s x (change_of (of_tile (tile_step w t))) in
    let same : happens (rules w) s (Step x) ≡ s' = ap (λ n. changed s x (change_of (node_step w n))) is in
    let after' : Sound w s' (values_after w s (Step x) (line_value w events)) =
    subst (λ z. Sound w z (values_after w s (Step x) (line_value w events))) same (event_sound w (node_count w.config) s (Step x) (line_value w events) a.sound (in_range w.config checked).some_tile last.can) in
    let made : Made w s' a.whole.server f (values_after w s (Step x) (line_value w events)) (tile_step w t).action = (step_act a x t low is can after').made in
    let commits : event_action w s (Step x) ≡ (tile_step w t).action = ap (λ n. (node_step w n).action) is in
    follows_so w events (Step x) f s' a.whole.server a same (node_other s x (change_of (of_tile (tile_step w t))) (control_node w.config) (above w.config.tiles x low) ∙ a.whole.is_server) a.whole.orderly
    (held_after a x t is can) (subst (λ o. Made w s' a.whole.server f (values_after w s (Step x) (line_value w events)) o) (sym commits) made)

-- AGREEMENT
pub whole_agrees : WholeAgrees
whole_agrees w events f checked run whole = let a = run_all w events f checked run whole in agrees_so a.whole.threads (line_value w events) a.whole.is_server a.sound a.whole.bytes a.whole.stand

-- THE START: no tile has a reservation
first_free : (w : Setup) (tile : ℕ) → (first_core w tile).reservation ≡ None
first_free w tile = by_test (tile == 0) where
  by_test : (b : Bool) → (if b then begun w 0 0 w.image.entry 0 0 w.config.quantum else idle_core).reservation ≡ None
  by_test true = refl
  by_test false = refl

start_free : (w : Setup) (y : ℕ) (t : TileData) (span : Span) → start_node w y ≡ Tile t → t.core.reservation ≡ Some span → ⊥
start_free w y t span is has = elim (cases_Bool (nat_lt y w.config.tiles)) [
  | inl low ↦
      let one : Tile (start_tile w y) ≡ Tile t = sym (cond-true (nat_lt y w.config.tiles) (Tile (start_tile w y)) (start_server w y) low) ∙ is in
      let tile : start_tile w y ≡ t = cc in
      let none : t.core.reservation ≡ None = ap (λ (z : TileData). z.core.reservation) (sym tile) ∙ first_free w y in cc
  | inr high ↦
      let one : start_server w y ≡ Tile t = sym (cond-false (nat_lt y w.config.tiles) (Tile (start_tile w y)) (start_server w y) high) ∙ is in
      elim (cases_Bool (y == control_node w.config)) [
        | inl e ↦ (let z = sym (cond-true (y == control_node w.config) _ _ e) ∙ one in cc)
        | inr e ↦ (let z = sym (cond-false (y == control_node w.config) _ _ e) ∙ one in cc)
      ]
]

pub start_is_whole : StartIsWhole
start_is_whole w checked = record {
  server = start_control w;
  is_server =
      let high : nat_lt w.config.tiles w.config.tiles ≡ false = grind (arith, nat_tests) in
      cond-false (nat_lt w.config.tiles w.config.tiles) (Tile (start_tile w w.config.tiles)) (start_server w w.config.tiles) high ∙ cond-true (w.config.tiles == w.config.tiles) _ _ (same_is w.config.tiles);
  orderly = (started_in_order w (start_control w) refl).orderly refl;
  threads = start_kept w (in_range w.config checked).some_tile;
  held = λ y t span is has. absurd (start_free w y t span is has);
  stand = λ y t th is busy at span has. absurd (start_free w y t span is has);
  bytes = start_agrees w;
  mapped = λ a. refl;
}
