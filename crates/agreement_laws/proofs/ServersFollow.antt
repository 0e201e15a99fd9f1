-- A step of the control server follows the flat machine: the request that it serves is legal there, and the whole is kept.
use Rattle.std.proofs.Common.{◌≡◌, ℕ, zero, suc, ◌<◌, Bool, true, false, ◌&&◌, List, [], ◌∷◌, ◌++◌, slice_get, slice_set, Option, Some, None, refl, sym, ap, ◌∙◌, inl, inr, subst}
use Rattle.std.proofs.lemmas.Bool.{cases_Bool, cond-true}
use Rattle.std.specs.Prelude.{◌==◌, nat_lt}
use Rattle.std.specs.Option.{option_map, option_map_or}
use Rattle.sim_base.specs.declared.actions.Action.{Action}
use Rattle.sim_base.specs.declared.actions.Action.TheVariants.{Serve}
use Rattle.sim_base.specs.declared.ends.End.{End}
use Rattle.sim_base.specs.Numbering.{node_count, control_node}
use Rattle.sim_base.proofs.CheckedSettings.{in_range}
use Rattle.elf_image.specs.Layout.{Setup}
use Rattle.wire_msg.specs.declared.messages.Msg.{Msg}
use Rattle.rv_hart.specs.declared.reservations.Span.{Span}
use Rattle.serving.specs.declared.control_data.Fate.{Fate}
use Rattle.serving.specs.declared.control_data.Fate.TheVariants.{Live, Exited}
use Rattle.serving.specs.declared.control_data.Request.{Request}
use Rattle.serving.specs.declared.control_data.Request.TheVariants.{Call}
use Rattle.wire_msg.specs.declared.calls.Call.TheVariants.{FutexWait}
use Rattle.serving.specs.Serving.{Woken, Own, answer, park, leave, Served, serve}
use Rattle.flat_machine.specs.declared.threads.Thread.{Thread}
use Rattle.flat_machine.specs.declared.threads.Status.{Status as FlatStatus}
use Rattle.flat_machine.specs.declared.threads.Status.TheVariants.{Answered, Parked}
use Rattle.flat_machine.specs.State.{State as Flat, with_status}
use Rattle.flat_machine.specs.Serving.{control_of, with_fate, with_fates, born_threads, woken_threads, with_own, after_serving, after_request, request_at, served_before, word_of}
use Rattle.flat_machine.specs.Action.{act}
use Rattle.tile_node.specs.Tile.{Tile as TileData}
use Rattle.control_server.specs.Control.{Control, Act, Waiting}
use Rattle.control_server.specs.Serve.{can_step as control_can_step, begins, step_by, control_step}
use Rattle.control_server.proofs.Orderly.{step_orderly}
use Rattle.event_journal.specs.declared.events.Event.TheVariants.{Step}
use Rattle.event_journal.specs.State.{State, changed}
use Rattle.event_journal.specs.Run.{happens}
use Rattle.node_machine.specs.declared.nodes.Node.{Node}
use Rattle.node_machine.specs.declared.nodes.Node.TheVariants.{Tile, Control as ControlNode}
use Rattle.node_machine.specs.Machine.{rules, start_state, can_step, node_step, change_of}
use Rattle.node_machine.specs.Commits.{event_action}
use Rattle.coherence_laws.specs.Laws.{reached, line_value, value_by, stepped_at}
use Rattle.coherence_laws.proofs.Events.{values_after}
use Rattle.coherence_laws.proofs.Holds.{IsNodeOf}
use Rattle.agreement_laws.specs.Kept.{Kept}
use Rattle.agreement_laws.specs.Whole.{AgreesOn, ReservationsStand, acted}
use Rattle.agreement_laws.specs.Servers.{ControlStepFollows}
use Rattle.agreement_laws.proofs.Moves.{same_is}
use Rattle.agreement_laws.proofs.Threads.{get_left}
use Rattle.agreement_laws.proofs.LocalStep.{node_other}
use Rattle.agreement_laws.proofs.Stand.{same_bytes}
use Rattle.agreement_laws.proofs.Whole.{All}
use Rattle.agreement_laws.proofs.Following.{last_happens, run_all, follows_so}
use Rattle.agreement_laws.proofs.Reading.{tile_shows}
use Rattle.agreement_laws.proofs.ServesParked.{same_set}
use Rattle.agreement_laws.proofs.Serving.{act_change, IsActed, step_kept}

-- SERVING LEAVES RESERVATIONS, and the memory
abbrev reserved_of : Option Thread → Option (Option Span)
reserved_of o = option_map (λ t. t.reservation) o

status_leaves : (ts : List Thread) (n x : ℕ) (status : FlatStatus) → reserved_of (slice_get (with_status ts n status) x) ≡ reserved_of (slice_get ts x)
status_leaves ts n x status = by_thread (slice_get ts n) refl where
  by_thread : (o : Option Thread) → slice_get ts n ≡ o → reserved_of (slice_get (option_map_or (λ t. slice_set ts n (record t { status = status })) o ts) x) ≡ reserved_of (slice_get ts x)
  by_thread None e = refl
  by_thread (Some t) e = same_set (option_map (λ t. t.reservation)) ts n x t (record t { status = status }) e refl

woken_leaves : (ws : List Woken) (ts : List Thread) (x : ℕ) → reserved_of (slice_get (woken_threads ws ts) x) ≡ reserved_of (slice_get ts x)
woken_leaves [] ts x = refl
woken_leaves (w ∷ ws) ts x = woken_leaves ws (with_status ts w.thread (Answered w.value)) x ∙ status_leaves ts w.thread x (Answered w.value)

own_leaves : (own : Own) (ts : List Thread) (n x : ℕ) → reserved_of (slice_get (with_own ts n own) x) ≡ reserved_of (slice_get ts x)
own_leaves (answer value) ts n x = status_leaves ts n x (Answered value)
own_leaves park ts n x = status_leaves ts n x Parked
own_leaves leave ts n x = refl

fate_leaves : (t : Thread) (fate : Fate) → (with_fate t fate).reservation ≡ t.reservation
fate_leaves t (Exited code joined) = refl
fate_leaves t (Live joiner) = refl

fates_leave : (ts : List Thread) (fates : List Fate) (x : ℕ) → reserved_of (slice_get (with_fates ts fates) x) ≡ reserved_of (slice_get ts x)
fates_leave [] fates x = refl
fates_leave (t ∷ ts) [] x = refl
fates_leave (t ∷ ts) (fate ∷ fates) zero = ap Some (fate_leaves t fate)
fates_leave (t ∷ ts) (fate ∷ fates) (suc x) = fates_leave ts fates x

more_leaves : (o : Option Thread) (xs ys : List Thread) (x : ℕ) (span : Option Span) → slice_get xs x ≡ o → reserved_of o ≡ Some span → reserved_of (slice_get (xs ++ ys) x) ≡ Some span
more_leaves None xs ys x span at e = cc
more_leaves (Some t) xs ys x span at e = ap reserved_of (get_left xs ys x t at) ∙ e

pub serving_leaves : (f : Flat) (u : ℕ) (made : Served) (x : ℕ) (span : Option Span) → reserved_of (slice_get f.threads x) ≡ Some span → reserved_of (slice_get (after_serving f u made).threads x) ≡ Some span
unfolding after_serving
serving_leaves f u made x span e =
    let fated : List Thread = with_fates f.threads made.control.fates in
    let more : List Thread = fated ++ born_threads made.born in
    own_leaves made.own (woken_threads made.woken more) u x
    ∙ (woken_leaves made.woken more x ∙ more_leaves (slice_get fated x) fated (born_threads made.born) x span refl (fates_leave f.threads made.control.fates x ∙ e))

serving_memory : (f : Flat) (u : ℕ) (made : Served) → (after_serving f u made).memory ≡ f.memory
unfolding after_serving
serving_memory f u made = refl

-- so with what an act of the control server commits
pub record Leaves (f g : Flat) : Type 0 where
  pub reservations : (x : ℕ) (span : Option Span) → reserved_of (slice_get f.threads x) ≡ Some span → reserved_of (slice_get g.threads x) ≡ Some span
  pub memory : g.memory ≡ f.memory

nothing_leaves : (f g : Flat) → Some f ≡ Some g → Leaves f g
nothing_leaves f g e = let same : f ≡ g = cc in subst (Leaves f) same (record { reservations = λ x span is. is; memory = refl })

pub serve_leaves : (w : Setup) (f g : Flat) (u : ℕ) → act w f (Serve u) ≡ Some g → Leaves f g
serve_leaves w f g u e = by_end f.ended e where
  by_request : (o : Option Request) → option_map (after_request w f u) o ≡ Some g → Leaves f g
  by_request None e = cc
  by_request (Some request) e =
      let made : Served = serve w (control_of f) u request (word_of f.memory request) true in
      let same : after_serving f u made ≡ g = cc in
      subst (Leaves f) same (record { reservations = serving_leaves f u made; memory = serving_memory f u made })

  by_end : (o : Option End) → served_before o w f u ≡ Some g → Leaves f g
  by_end None e = by_request (request_at f u) e
  by_end (Some end) e = cc

-- the flat machine's thread of a tile that isn't idle has its reservation still
out_of_both : (o : Option Thread) (th : Thread) (span : Option Span) → o ≡ Some th → reserved_of o ≡ Some span → th.reservation ≡ span
out_of_both None th span is e = cc
out_of_both (Some t) th span is e = (let same : t ≡ th = cc in let q : Some t.reservation ≡ Some span = e in let r : t.reservation ≡ span = cc in ap (λ (z : Thread). z.reservation) (sym same) ∙ r)

pub control_stands : {w : Setup} {s : State Node Msg} {c : Control} {f : Flat} (k : Kept w s c f) (s' : State Node Msg) (g : Flat) → ((y : ℕ) → IsNodeOf w y (s.node y)) → ReservationsStand s f → Leaves f g
    → ((y : ℕ) (t : TileData) → s'.node y ≡ Tile t → s.node y ≡ Tile t) → ReservationsStand s' g
control_stands {w} {s} {c} {f} k s' g nodes stand leaves tiles = λ y t th is busy at span has.
    let old : s.node y ≡ Tile t = tiles y t is in
    let low : y < w.config.tiles = (subst (IsNodeOf w y) old (nodes y)).0 in
    let there = (tile_shows k y t low old busy).1 in
    let kept : reserved_of (slice_get g.threads t.core.thread) ≡ Some there.thread.reservation = leaves.reservations t.core.thread there.thread.reservation (ap reserved_of there.is_thread) in
    out_of_both (slice_get g.threads t.core.thread) th there.thread.reservation at kept ∙ stand y t there.thread old busy there.is_thread span has

-- the control server has acted: tiles are as before
pub tiles_before : (w : Setup) (s : State Node Msg) (a : Act) (y : ℕ) (t : TileData) → (changed s (control_node w.config) (act_change a)).node y ≡ Tile t → s.node y ≡ Tile t
tiles_before w s a y t is = elim (cases_Bool (y == control_node w.config)) [
  | inl e ↦ (let z : ControlNode a.control ≡ Tile t = sym (cond-true (y == control_node w.config) (ControlNode a.control) (s.node y) e) ∙ is in cc)
  | inr far ↦ sym (node_other s (control_node w.config) (act_change a) y far) ∙ is
]

-- what a step commits is a serving, if anything
data ServesOrNot : Option Action → Type 0 where
  nothing_done : ServesOrNot None
  one_served : (u : ℕ) → ServesOrNot (Some (Serve u))

serves_by : (w : Setup) (c : Control) (q : Waiting) (request : Request) → ServesOrNot (begins w c q request).action
serves_by w c q (Call (FutexWait addr value)) = nothing_done
serves_by w c q _ = one_served q.thread

begins_plain : (w : Setup) (c : Control) → ServesOrNot (control_step w c).action
begins_plain w c = by_backlog c.backlog where
  by_backlog : (xs : List Waiting) → ServesOrNot (step_by w c xs).action
  by_backlog [] = nothing_done
  by_backlog (q ∷ rest) = serves_by w (record c { backlog = rest }) q q.request

acted_leaves : (w : Setup) (f g : Flat) {o : Option Action} → ServesOrNot o → acted w f o ≡ Some g → Leaves f g
acted_leaves w f g nothing_done e = nothing_leaves f g e
acted_leaves w f g (one_served u) e = serve_leaves w f g u e

steps_so : (a b c : Bool) → (a && (b && c)) ≡ true → c ≡ true
steps_so true true c e = e
steps_so true false c e = cc
steps_so false b c e = cc

-- THE LAW
pub control_step_follows : ControlStepFollows
control_step_follows w events f checked run whole =
    let n : ℕ = control_node w.config in
    let last = last_happens (rules w) (node_count w.config) (start_state w) events (Step n) run in
    let s : State Node Msg = reached w events in
    let a : All w s (line_value w events) f = run_all w events f checked last.run whole in
    let c : Control = a.whole.server in
    let is : s.node n ≡ ControlNode c = a.whole.is_server in
    let may : control_can_step c ≡ true = ap can_step (sym is) ∙ steps_so (nat_lt n (node_count w.config)) (nat_lt (s.made n) w.config.events) (can_step (s.node n)) last.can in
    let made : Act = control_step w c in
    let s' : State Node Msg = changed s n (act_change made) in
    let same : happens (rules w) s (Step n) ≡ s' = ap (λ z. changed s n (change_of (node_step w z))) is in
    let commits : event_action w s (Step n) ≡ made.action = ap (λ z. (node_step w z).action) is in
    let kept : IsActed w s f made = step_kept a.whole.threads a.whole.orderly may (in_range w.config checked).some_host in
    let leaves : Leaves f kept.0 = acted_leaves w f kept.0 (begins_plain w c) kept.1 in
    follows_so w events (Step n) f s' made.control a same (cond-true (n == n) _ _ (same_is n)) (step_orderly w c may a.whole.orderly)
    (λ y t span at has. a.whole.held y t span (tiles_before w s made y t at) has)
    (record {
      flat = kept.0;
      legal = ap (acted w f) commits ∙ kept.1;
      threads = kept.2;
      stand = control_stands a.whole.threads s' kept.0 a.sound.nodes a.whole.stand leaves (tiles_before w s made);
      bytes = subst (λ m. AgreesOn m (values_after w s (Step n) (line_value w events))) (sym leaves.memory)
          (same_bytes f.memory (line_value w events) (values_after w s (Step n) (line_value w events)) (λ line. ap (λ z. value_by z (stepped_at w z line) (line_value w events line)) is) a.whole.bytes);
    })
