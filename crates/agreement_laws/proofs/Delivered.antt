-- Every delivery to a tile of a message about no line: what it commits is legal on the flat machine, and all is kept.
use Rattle.std.proofs.Common.{◌≡◌, ◌≢◌, ℕ, ◌+◌, ◌-◌, ◌<◌, ◌&&◌, Bool, true, false, List, [], ◌∷◌, Some, None, refl, sym, ap, ◌∙◌, arith, inl, inr, subst}
use Rattle.std.proofs.lemmas.Bool.Decides.{nat_tests}
use Rattle.std.proofs.lemmas.Bool.{cases_Bool, cond-true, cond-false}
use Rattle.std.specs.Prelude.{◌==◌, ◌/◌, ◌||◌, nat_lt, if◌then◌else◌}
use Rattle.sim_base.specs.declared.actions.Action.TheVariants.{Return as ReturnAction, Begin}
use Rattle.sim_base.specs.declared.lines.LineData.{LineData}
use Rattle.sim_base.specs.declared.settings.Config.{Config}
use Rattle.sim_base.specs.Numbering.{node_count, control_node, local_node, host_of}
use Rattle.rv_hart.specs.declared.reservations.Span.{Span}
use Rattle.elf_image.specs.Layout.{Setup}
use Rattle.wire_msg.specs.declared.messages.Msg.{Msg}
use Rattle.wire_msg.specs.declared.messages.Msg.TheVariants.{Call, Return, Start, Exit, Trapped, Reached, Limit, Probe, ProbeReply}
use Rattle.wire_msg.specs.Message.{may_send, line_of}
use Rattle.clock_policy.specs.Probe.{may_go_on}
use Rattle.flat_machine.specs.State.{State as Flat, started}
use Rattle.flat_machine.specs.Action.{past_call}
use Rattle.tile_core.specs.declared.cores.Status.{Status}
use Rattle.tile_core.specs.declared.cores.Status.TheVariants.{Idle, Called, AtBarrier, Probing}
use Rattle.tile_node.specs.Tile.{Tile as TileData, Act, quiet}
use Rattle.tile_node.specs.Deliver.{return_taken, start_taken, limit_taken, probe_taken, reply_taken, taken, tile_delivered}
use Rattle.tile_node.specs.OneLine.{nothing, delivered_at}
use Rattle.event_journal.specs.declared.events.Event.TheVariants.{Deliver}
use Rattle.event_journal.specs.State.{State, changed, with_queue}
use Rattle.node_machine.specs.declared.nodes.Node.{Node}
use Rattle.node_machine.specs.declared.nodes.Node.TheVariants.{Tile}
use Rattle.node_machine.specs.Machine.{change_of, of_tile}
use Rattle.tile_cache.specs.Copy.{copy_of}
use Rattle.coherence_laws.specs.Coherence.{IsWritable}
use Rattle.coherence_laws.specs.Laws.{value_after, value_by, heard_at}
use Rattle.coherence_laws.proofs.Events.{values_after}
use Rattle.agreement_laws.specs.Seen.{is_of_threads}
use Rattle.agreement_laws.specs.Phases.{tile_of}
use Rattle.agreement_laws.specs.Kept.{Kept}
use Rattle.agreement_laws.specs.Whole.{ReservationsHeld}
use Rattle.agreement_laws.proofs.Moves.{equal, same_is}
use Rattle.agreement_laws.proofs.LocalStep.{node_other}
use Rattle.agreement_laws.proofs.Quiet.{kept_seen, taken_same}
use Rattle.agreement_laws.proofs.Stand.{who_sits, Made, changed_made, silent_made}
use Rattle.agreement_laws.proofs.Returning.{who_is_told, returned_kept}
use Rattle.agreement_laws.proofs.Beginning.{who_is_given, begun_kept}
use Rattle.agreement_laws.proofs.Delivering.{taken_unseen, is_answer, is_start, control_head, local_head, quiet_kept, probed_kept, limit_kept, reply_kept}
use Rattle.agreement_laws.proofs.Whole.{All}

-- the state after tile x made this act of a message from node i
abbrev pub after_act : State Node Msg → ℕ → ℕ → List Msg → Act → State Node Msg
after_act s i x rest act = changed (with_queue s i x rest) x (change_of (of_tile act))

pub record Heard (w : Setup) (s : State Node Msg) (value : ℕ → LineData) (f : Flat) (a : All w s value f) (i x : ℕ) (rest : List Msg) (act : Act) : Type 0 where
  pub made : Made w (after_act s i x rest act) a.whole.server f (values_after w s (Deliver i x) value) act.action
  pub held : ReservationsHeld (after_act s i x rest act)

-- VALUES stay
either_same : (b : Bool) (status : Status) (v : LineData) → value_after status (if b then nothing else nothing) v ≡ v
either_same true status v = refl
either_same false status v = refl

heard_same : (w : Setup) (t : TileData) (i : ℕ) (msg : Msg) (k : ℕ) (v : LineData) → line_of msg ≡ None → value_after t.core.status (delivered_at w t i msg k) v ≡ v
heard_same w t i (Call thread time call) k v e = either_same (may_send w.config i t.number (Call thread time call)) t.core.status v
heard_same w t i (Return value time limit) k v e = either_same (may_send w.config i t.number (Return value time limit)) t.core.status v
heard_same w t i (Start thread entry arg time limit) k v e = either_same (may_send w.config i t.number (Start thread entry arg time limit)) t.core.status v
heard_same w t i (Exit thread code time) k v e = either_same (may_send w.config i t.number (Exit thread code time)) t.core.status v
heard_same w t i (Trapped thread cause pc) k v e = either_same (may_send w.config i t.number (Trapped thread cause pc)) t.core.status v
heard_same w t i (Reached thread) k v e = either_same (may_send w.config i t.number (Reached thread)) t.core.status v
heard_same w t i (Limit limit) k v e = either_same (may_send w.config i t.number (Limit limit)) t.core.status v
heard_same w t i Probe k v e = either_same (may_send w.config i t.number Probe) t.core.status v
heard_same w t i (ProbeReply runs clock) k v e = either_same (may_send w.config i t.number (ProbeReply runs clock)) t.core.status v
heard_same w t i _ k v e = cc

pub values_same : (w : Setup) (s : State Node Msg) (value : ℕ → LineData) (i x : ℕ) (t : TileData) (msg : Msg) (rest : List Msg) (k : ℕ) → s.node x ≡ Tile t → s.queue i x ≡ msg ∷ rest → line_of msg ≡ None
    → values_after w s (Deliver i x) value k ≡ value k
values_same w s value i x t msg rest k is waits none =
    ap (λ n. value_by n (heard_at w n i (s.queue i x) k) (value k)) is
    ∙ (ap (λ q. value_after t.core.status (heard_at w (Tile t) i q k) (value k)) waits ∙ heard_same w t i msg k (value k) none)

-- RESERVATIONS stay, or end
pub same_held : {w : Setup} {s : State Node Msg} {value : ℕ → LineData} {f : Flat} (a : All w s value f) (i x : ℕ) (t : TileData) (rest : List Msg) (act : Act) → s.node x ≡ Tile t → act.tile.cache ≡ t.cache
    → ((span : Span) → act.tile.core.reservation ≡ Some span → t.core.reservation ≡ Some span) → ReservationsHeld (after_act s i x rest act)
same_held {w} {s} {value} {f} a i x t rest act is cache fewer = λ y u span at has. elim (cases_Bool (y == x)) [
  | inl e ↦
      let one : Tile act.tile ≡ Tile u = sym (cond-true (x == x) _ _ (same_is x)) ∙ (ap (λ z. (after_act s i x rest act).node z) (sym (equal y x e)) ∙ at) in
      let tile : act.tile ≡ u = cc in
      let old = a.whole.held x t span is (fewer span (ap (λ (z : TileData). z.core.reservation) tile ∙ has)) in
      let same : u.cache ≡ t.cache = ap (λ (z : TileData). z.cache) (sym tile) ∙ cache in
      record { room = old.room; copy = subst (λ z. IsWritable (copy_of z (span.addr / 64))) (sym same) old.copy }
  | inr far ↦ a.whole.held y u span (sym (node_other (with_queue s i x rest) x (change_of (of_tile act)) y far) ∙ at) has
]

-- an act that commits nothing and leaves core's thread and reservation
silent_heard : {w : Setup} {s : State Node Msg} {value : ℕ → LineData} {f : Flat} (a : All w s value f) (i x : ℕ) (t : TileData) (msg : Msg) (rest : List Msg) (act : Act) → s.node x ≡ Tile t → s.queue i x ≡ msg ∷ rest → line_of msg ≡ None
    → (act.tile.core.status ≢ Idle → t.core.status ≢ Idle) → act.action ≡ None → act.tile.cache ≡ t.cache → act.tile.core.thread ≡ t.core.thread → act.tile.core.reservation ≡ t.core.reservation
    → Kept w (after_act s i x rest act) a.whole.server f → Heard w s value f a i x rest act
silent_heard {w} {s} {value} {f} a i x t msg rest act is waits none busy silent cache thread reservation kept = record {
  made = subst (λ o. Made w (after_act s i x rest act) a.whole.server f (values_after w s (Deliver i x) value) o) (sym silent)
      (silent_made a.whole.threads (after_act s i x rest act) x t act.tile value (values_after w s (Deliver i x) value) a.whole.stand is (cond-true (x == x) _ _ (same_is x))
      (λ y far. node_other (with_queue s i x rest) x (change_of (of_tile act)) y far) busy thread (λ span e. sym reservation ∙ e) (λ k. values_same w s value i x t msg rest k is waits none) a.whole.bytes kept);
  held = same_held a i x t rest act is cache (λ span e. sym reservation ∙ e);
}

quiet_heard : {w : Setup} {s : State Node Msg} {value : ℕ → LineData} {f : Flat} (a : All w s value f) (i x : ℕ) (t : TileData) (msg : Msg) (rest : List Msg) → x < w.config.tiles → s.node x ≡ Tile t → s.queue i x ≡ msg ∷ rest
    → line_of msg ≡ None → Kept w (with_queue s i x rest) a.whole.server f → Heard w s value f a i x rest (quiet t)
quiet_heard a i x t msg rest low is waits none kept = silent_heard a i x t msg rest (quiet t) is waits none (λ busy. busy) refl refl refl refl (quiet_kept kept x t [] low is (λ to. refl))

-- A MESSAGE ABOUT A THREAD comes from its server, or from a node that may not send it
third_node : {w : Setup} {s : State Node Msg} {value : ℕ → LineData} {f : Flat} (a : All w s value f) (i x : ℕ) (t : TileData) (msg : Msg) (rest : List Msg) → x < w.config.tiles → s.node x ≡ Tile t → s.queue i x ≡ msg ∷ rest
    → line_of msg ≡ None → (control_node w.config == i) ≡ false → (local_node w.config (host_of w.config x) == i) ≡ false → Heard w s value f a i x rest (quiet t)
third_node {w} {s} a i x t msg rest low is waits none control local =
    quiet_heard a i x t msg rest low is waits none (kept_seen a.whole.threads (with_queue s i x rest) (taken_unseen w s i x rest low control local))

-- one that no tile takes
either_quiet : (b : Bool) (t : TileData) → (if b then quiet t else quiet t) ≡ quiet t
either_quiet true t = refl
either_quiet false t = refl

dropped_heard : {w : Setup} {s : State Node Msg} {value : ℕ → LineData} {f : Flat} (a : All w s value f) (i x : ℕ) (t : TileData) (msg : Msg) (rest : List Msg) → x < w.config.tiles → s.node x ≡ Tile t → s.queue i x ≡ msg ∷ rest
    → line_of msg ≡ None → is_of_threads msg ≡ true → is_answer msg ≡ false → is_start msg ≡ false → tile_delivered w t i msg ≡ quiet t → Heard w s value f a i x rest (tile_delivered w t i msg)
dropped_heard {w} {s} {value} {f} a i x t msg rest low is waits none about no_answer no_start same = subst (Heard w s value f a i x rest) (sym same) (elim (cases_Bool (control_node w.config == i)) [
  | inl e ↦ (let so = control_head a.whole.threads x msg rest low (ap (λ z. s.queue z x) (equal (control_node w.config) i e) ∙ waits) about in cc)
  | inr control ↦ elim (cases_Bool (local_node w.config (host_of w.config x) == i)) [
    | inl e ↦ (let so = local_head a.whole.threads x msg rest low (ap (λ z. s.queue z x) (equal (local_node w.config (host_of w.config x)) i e) ∙ waits) about in cc)
    | inr local ↦ third_node a i x t msg rest low is waits none control local
  ]
])

-- what comes from the control server
from_control_may : (c : Config) (i x : ℕ) → x < c.tiles → ((i == control_node c) && nat_lt x c.tiles) ≡ (control_node c == i)
from_control_may c i x low = grind (arith, nat_tests)

-- an answer
answer_heard : {w : Setup} {s : State Node Msg} {value : ℕ → LineData} {f : Flat} (a : All w s value f) (i x : ℕ) (t : TileData) (msg : Msg) (rest : List Msg) → x < w.config.tiles → s.node x ≡ Tile t → s.queue i x ≡ msg ∷ rest
    → line_of msg ≡ None → is_of_threads msg ≡ true → is_start msg ≡ false → may_send w.config i t.number msg ≡ (control_node w.config == i)
    → ((control_node w.config == i) ≡ true → Heard w s value f a i x rest (taken w t i msg)) → Heard w s value f a i x rest (tile_delivered w t i msg)
answer_heard {w} {s} {value} {f} a i x t msg rest low is waits none about no_start may takes = elim (cases_Bool (control_node w.config == i)) [
  | inl e ↦ subst (Heard w s value f a i x rest) (sym (cond-true (may_send w.config i t.number msg) _ _ (may ∙ e))) (takes e)
  | inr control ↦ subst (Heard w s value f a i x rest) (sym (cond-false (may_send w.config i t.number msg) _ _ (may ∙ control))) (elim (cases_Bool (local_node w.config (host_of w.config x) == i)) [
    | inl e ↦ (let so = local_head a.whole.threads x msg rest low (ap (λ z. s.queue z x) (equal (local_node w.config (host_of w.config x)) i e) ∙ waits) about in cc)
    | inr local ↦ third_node a i x t msg rest low is waits none control local
  ])
]

return_heard : {w : Setup} {s : State Node Msg} {value : ℕ → LineData} {f : Flat} (a : All w s value f) (x : ℕ) (t : TileData) (result time limit : ℕ) (rest : List Msg) → x < w.config.tiles → s.node x ≡ Tile t
    → s.queue (control_node w.config) x ≡ Return result time limit ∷ rest → Heard w s value f a (control_node w.config) x rest (return_taken w t result time limit t.core.status)
return_heard {w} {s} {value} {f} a x t result time limit rest low is waits =
    let n : ℕ = control_node w.config in
    let u : ℕ = t.core.thread in
    let told_so = who_is_told a.whole.threads x t result time limit rest low is waits in
    let busy : t.core.status ≢ Idle = λ e. (let z : Called ≡ Idle = sym told_so.status ∙ e in cc) in
    let act : Act = return_taken w t result time limit t.core.status in
    let act_is : act ≡ return_taken w t result time limit Called = ap (return_taken w t result time limit) told_so.status in
    let done = returned_kept a.whole.threads x t result time limit rest low is waits in
    let reservation : act.tile.core.reservation ≡ t.core.reservation = ap (λ (z : Act). z.tile.core.reservation) act_is in
    record {
      made = subst (λ o. Made w (after_act s n x rest act) a.whole.server f (values_after w s (Deliver n x) value) o) (sym done.0)
          (changed_made a.whole.threads (after_act s n x rest act) x u act.tile (ReturnAction u) (λ th. past_call th result) value (values_after w s (Deliver n x) value) a.sound.nodes a.whole.stand
          (who_sits a.whole.threads x t low is busy) (cond-true (x == x) _ _ (same_is x)) (λ y far. node_other (with_queue s n x rest) x (change_of (of_tile act)) y far)
          (ap (λ (z : Act). z.tile.core.thread) act_is) (λ th at some span has. a.whole.stand x t th is busy at span (sym reservation ∙ has))
          (λ k. values_same w s value n x t (Return result time limit) rest k is waits refl) a.whole.bytes done.1);
      held = same_held a n x t rest act is (ap (λ (z : Act). z.tile.cache) act_is) (λ span e. sym reservation ∙ e);
    }

limit_heard : {w : Setup} {s : State Node Msg} {value : ℕ → LineData} {f : Flat} (a : All w s value f) (x : ℕ) (t : TileData) (limit : ℕ) (rest : List Msg) → x < w.config.tiles → s.node x ≡ Tile t
    → s.queue (control_node w.config) x ≡ Limit limit ∷ rest → Heard w s value f a (control_node w.config) x rest (limit_taken t limit t.core.status)
limit_heard {w} {s} {value} {f} a x t limit rest low is waits =
    let kept = limit_kept a.whole.threads x t limit rest low is waits in
    let parts = limit_parts t.core.status in
    silent_heard a (control_node w.config) x t (Limit limit) rest (limit_taken t limit t.core.status) is waits refl (λ some. kept.0) parts.0 parts.1 parts.2 parts.3 kept.1
  where
    limit_parts : (status : Status) → ((limit_taken t limit status).action ≡ None) × ((limit_taken t limit status).tile.cache ≡ t.cache) × ((limit_taken t limit status).tile.core.thread ≡ t.core.thread)
        × ((limit_taken t limit status).tile.core.reservation ≡ t.core.reservation)
    limit_parts (AtBarrier b) = (refl, refl, refl, refl)
    limit_parts _ = (refl, refl, refl, refl)

-- a start, from the local server of the tile's host
start_parts : (z p p' q r : Bool) → z ≡ false → (z || (((p && p') && q) && r)) ≡ true → (p ≡ true) × (r ≡ true)
start_parts true p p' q r none e = cc
start_parts false true true true true none e = (refl, refl)
start_parts false true true true false none e = cc
start_parts false true true false r none e = cc
start_parts false true false q r none e = cc
start_parts false false p' q r none e = cc

not_local : (b d e : Bool) → d ≡ false → (b && (d && e)) ≡ false
not_local true d e none = rw none refl
not_local false d e none = refl

server_is : (c : Config) (i : ℕ) → c.tiles < i → host_of c i ≡ i - (c.tiles + 1 + 0)
server_is c i high =
    let a : nat_lt i c.tiles ≡ false = grind (arith, nat_tests) in
    let b : (i == c.tiles) ≡ false = grind (arith, nat_tests) in
    cond-false (nat_lt i c.tiles) _ _ a ∙ cond-false (i == c.tiles) _ _ b

local_is : (tiles i h : ℕ) → tiles < i → h ≡ i - (tiles + 1 + 0) → (tiles + 1 + h == i) ≡ true
local_is tiles i h high e = let same : tiles + 1 + h ≡ i = omega (arith, high, e) in rw same (same_is i)

start_from : (c : Config) (i x thread entry arg time limit : ℕ) → x < c.tiles → may_send c i x (Start thread entry arg time limit) ≡ true → (local_node c (host_of c x) == i) ≡ true
start_from c i x thread entry arg time limit low e =
    let no : nat_lt c.tiles x ≡ false = grind (arith, nat_tests) in
    let parts = start_parts _ (nat_lt c.tiles i) (nat_lt i (node_count c)) (nat_lt x c.tiles) (host_of c i == host_of c x) (not_local (i == c.tiles) (nat_lt c.tiles x) (nat_lt x (node_count c)) no) e in
    let above_it : nat_lt c.tiles i ≡ true = parts.0 in
    let high : c.tiles < i = grind (arith, nat_tests) in
    local_is c.tiles i (host_of c x) high (sym (equal (host_of c i) (host_of c x) parts.1) ∙ server_is c i high)

start_may : (c : Config) (x thread entry arg time limit : ℕ) → x < c.tiles → local_node c (host_of c x) < node_count c → may_send c (local_node c (host_of c x)) x (Start thread entry arg time limit) ≡ true
start_may c x thread entry arg time limit low below =
    let l : ℕ = local_node c (host_of c x) in
    let high : c.tiles < l = omega arith in
    let a : nat_lt c.tiles l ≡ true = grind (arith, nat_tests) in
    let b : nat_lt l (node_count c) ≡ true = grind (arith, nat_tests) in
    let d : nat_lt x c.tiles ≡ true = grind (arith, nat_tests) in
    let own : host_of c l ≡ host_of c x = server_is c l high ∙ omega arith in
    let g : (host_of c l == host_of c x) ≡ true = ap (λ z. z == host_of c x) own ∙ same_is (host_of c x) in
    last_so (l == c.tiles && (nat_lt c.tiles x && nat_lt x (node_count c))) _ _ _ _ a b d g
  where
    last_so : (z p p' q r : Bool) → p ≡ true → p' ≡ true → q ≡ true → r ≡ true → (z || (((p && p') && q) && r)) ≡ true
    last_so true p p' q r a b d g = refl
    last_so false p p' q r a b d g = rw (a, b, d, g) refl

begun_heard : {w : Setup} {s : State Node Msg} {value : ℕ → LineData} {f : Flat} (a : All w s value f) (x : ℕ) (t : TileData) (u entry arg time limit : ℕ) (rest : List Msg) → x < w.config.tiles → s.node x ≡ Tile t → t.number ≡ x
    → s.queue (local_node w.config (host_of w.config x)) x ≡ Start u entry arg time limit ∷ rest
    → Heard w s value f a (local_node w.config (host_of w.config x)) x rest (start_taken w t u entry arg time limit t.core.status)
begun_heard {w} {s} {value} {f} a x t u entry arg time limit rest low is number waits =
    let l : ℕ = local_node w.config (host_of w.config x) in
    let so = who_is_given a.whole.threads x t u entry arg time limit rest low is waits in
    let act : Act = start_taken w t u entry arg time limit t.core.status in
    let act_is : act ≡ start_taken w t u entry arg time limit Idle = ap (start_taken w t u entry arg time limit) so.idle in
    let done = begun_kept a.whole.threads x t u entry arg time limit rest low is number waits in
    let none : act.tile.core.reservation ≡ None = ap (λ (z : Act). z.tile.core.reservation) act_is in
    record {
      made = subst (λ o. Made w (after_act s l x rest act) a.whole.server f (values_after w s (Deliver l x) value) o) (sym done.0)
          (changed_made a.whole.threads (after_act s l x rest act) x u act.tile (Begin u x) (started w x entry arg) value (values_after w s (Deliver l x) value) a.sound.nodes a.whole.stand
          (a.whole.threads.sits u x (ap tile_of so.phase)) (cond-true (x == x) _ _ (same_is x)) (λ y far. node_other (with_queue s l x rest) x (change_of (of_tile act)) y far)
          (ap (λ (z : Act). z.tile.core.thread) act_is) (λ th at some span has. (let z : None ≡ Some span = sym none ∙ has in cc))
          (λ k. values_same w s value l x t (Start u entry arg time limit) rest k is waits refl) a.whole.bytes done.1);
      held = same_held a l x t rest act is (ap (λ (z : Act). z.tile.cache) act_is) (λ span has. (let z : None ≡ Some span = sym none ∙ has in cc));
    }

start_heard : {w : Setup} {s : State Node Msg} {value : ℕ → LineData} {f : Flat} (a : All w s value f) (i x : ℕ) (t : TileData) (u entry arg time limit : ℕ) (rest : List Msg) → x < w.config.tiles → s.node x ≡ Tile t → t.number ≡ x
    → i < node_count w.config → s.queue i x ≡ Start u entry arg time limit ∷ rest → Heard w s value f a i x rest (tile_delivered w t i (Start u entry arg time limit))
start_heard {w} {s} {value} {f} a i x t u entry arg time limit rest low is number below waits =
    let msg : Msg = Start u entry arg time limit in
    elim (cases_Bool (local_node w.config (host_of w.config x) == i)) [
      | inl e ↦
          let at : local_node w.config (host_of w.config x) ≡ i = equal (local_node w.config (host_of w.config x)) i e in
          let may : may_send w.config (local_node w.config (host_of w.config x)) t.number msg ≡ true =
          ap (λ z. may_send w.config (local_node w.config (host_of w.config x)) z msg) number ∙ start_may w.config x u entry arg time limit low (subst (λ z. z < node_count w.config) (sym at) below) in
          let here : s.queue (local_node w.config (host_of w.config x)) x ≡ msg ∷ rest = ap (λ z. s.queue z x) at ∙ waits in
          subst (λ z. Heard w s value f a z x rest (tile_delivered w t z msg)) at
          (subst (Heard w s value f a (local_node w.config (host_of w.config x)) x rest) (sym (cond-true (may_send w.config (local_node w.config (host_of w.config x)) t.number msg) _ _ may)) (begun_heard a x t u entry arg time limit rest low is number here))
      | inr local ↦
          let no : may_send w.config i t.number msg ≡ false = elim (cases_Bool (may_send w.config i t.number msg)) [
            | inl may ↦ (let z = start_from w.config i x u entry arg time limit low (ap (λ z. may_send w.config i z msg) (sym number) ∙ may) in cc)
            | inr none ↦ none
          ] in
          subst (Heard w s value f a i x rest) (sym (cond-false (may_send w.config i t.number msg) _ _ no)) (elim (cases_Bool (control_node w.config == i)) [
            | inl e ↦ (let so = control_head a.whole.threads x msg rest low (ap (λ z. s.queue z x) (equal (control_node w.config) i e) ∙ waits) refl in cc)
            | inr control ↦ third_node a i x t msg rest low is waits refl control local
          ])
    ]

-- PROBES
record Leaves (t : TileData) (act : Act) : Type 0 where
  action : act.action ≡ None
  cache : act.tile.cache ≡ t.cache
  thread : act.tile.core.thread ≡ t.core.thread
  reservation : act.tile.core.reservation ≡ t.core.reservation
  busy : act.tile.core.status ≢ Idle → t.core.status ≢ Idle

quiet_leaves : (t : TileData) → Leaves t (quiet t)
quiet_leaves t = record { action = refl; cache = refl; thread = refl; reservation = refl; busy = λ b. b }

if_leaves : (t : TileData) (b : Bool) (x y : Act) → Leaves t x → Leaves t y → Leaves t (if b then x else y)
if_leaves t true x y p q = p
if_leaves t false x y p q = q

reply_leaves : (w : Setup) (t : TileData) (goes : Bool) (clock : ℕ) (status : Status) → t.core.status ≡ status → Leaves t (reply_taken w t goes clock status)
reply_leaves w t goes clock (Probing b partner replies) e =
    let some : t.core.status ≢ Idle = λ idle. (let z : Probing b partner replies ≡ Idle = sym e ∙ idle in cc) in
    if_leaves t (may_go_on t.core.clock clock goes w.config.slack (replies + 1)) _ _ (record { action = refl; cache = refl; thread = refl; reservation = refl; busy = λ z. some })
    (record { action = refl; cache = refl; thread = refl; reservation = refl; busy = λ z. some })
reply_leaves w t goes clock _ e = quiet_leaves t

about_none : {w : Setup} {s : State Node Msg} {value : ℕ → LineData} {f : Flat} (a : All w s value f) (i x : ℕ) (t : TileData) (msg : Msg) (rest : List Msg) (act : Act) → x < w.config.tiles → s.node x ≡ Tile t → s.queue i x ≡ msg ∷ rest
    → line_of msg ≡ None → is_of_threads msg ≡ false → Leaves t act → (Kept w (with_queue s i x rest) a.whole.server f → Kept w (after_act s i x rest act) a.whole.server f) → Heard w s value f a i x rest (if may_send w.config i t.number msg then act else quiet t)
about_none {w} {s} {value} {f} a i x t msg rest act low is waits none other leaves kept = elim (cases_Bool (may_send w.config i t.number msg)) [
  | inl may ↦ subst (Heard w s value f a i x rest) (sym (cond-true (may_send w.config i t.number msg) _ _ may))
      (silent_heard a i x t msg rest act is waits none leaves.busy leaves.action leaves.cache leaves.thread leaves.reservation (kept before))
  | inr none_may ↦ subst (Heard w s value f a i x rest) (sym (cond-false (may_send w.config i t.number msg) _ _ none_may)) (quiet_heard a i x t msg rest low is waits none before)
]
  where
    before : Kept w (with_queue s i x rest) a.whole.server f
    before = kept_seen a.whole.threads (with_queue s i x rest) (taken_same w s i x msg rest waits other)

-- EACH MESSAGE
pub deliver_heard : {w : Setup} {s : State Node Msg} {value : ℕ → LineData} {f : Flat} (a : All w s value f) (i x : ℕ) (t : TileData) (msg : Msg) (rest : List Msg) → x < w.config.tiles → s.node x ≡ Tile t → t.number ≡ x
    → i < node_count w.config → s.queue i x ≡ msg ∷ rest → line_of msg ≡ None → Heard w s value f a i x rest (tile_delivered w t i msg)
deliver_heard {w} {s} {value} {f} a i x t (Call thread time call) rest low is number below waits none = dropped_heard a i x t (Call thread time call) rest low is waits none refl refl refl (either_quiet (may_send w.config i t.number (Call thread time call)) t)
deliver_heard {w} {s} {value} {f} a i x t (Exit thread code time) rest low is number below waits none = dropped_heard a i x t (Exit thread code time) rest low is waits none refl refl refl (either_quiet (may_send w.config i t.number (Exit thread code time)) t)
deliver_heard {w} {s} {value} {f} a i x t (Trapped thread cause pc) rest low is number below waits none = dropped_heard a i x t (Trapped thread cause pc) rest low is waits none refl refl refl (either_quiet (may_send w.config i t.number (Trapped thread cause pc)) t)
deliver_heard {w} {s} {value} {f} a i x t (Reached thread) rest low is number below waits none = dropped_heard a i x t (Reached thread) rest low is waits none refl refl refl (either_quiet (may_send w.config i t.number (Reached thread)) t)
deliver_heard {w} {s} {value} {f} a i x t (Return result time limit) rest low is number below waits none =
    answer_heard a i x t (Return result time limit) rest low is waits none refl refl (ap (λ z. may_send w.config i z (Return result time limit)) number ∙ from_control_may w.config i x low)
    (λ e. subst (λ z. Heard w s value f a z x rest (return_taken w t result time limit t.core.status)) (equal (control_node w.config) i e)
    (return_heard a x t result time limit rest low is (ap (λ z. s.queue z x) (equal (control_node w.config) i e) ∙ waits)))
deliver_heard {w} {s} {value} {f} a i x t (Limit limit) rest low is number below waits none =
    answer_heard a i x t (Limit limit) rest low is waits none refl refl (ap (λ z. may_send w.config i z (Limit limit)) number ∙ from_control_may w.config i x low)
    (λ e. subst (λ z. Heard w s value f a z x rest (limit_taken t limit t.core.status)) (equal (control_node w.config) i e)
    (limit_heard a x t limit rest low is (ap (λ z. s.queue z x) (equal (control_node w.config) i e) ∙ waits)))
deliver_heard a i x t (Start u entry arg time limit) rest low is number below waits none = start_heard a i x t u entry arg time limit rest low is number below waits
deliver_heard {w} {s} a i x t Probe rest low is number below waits none =
    about_none a i x t Probe rest (probe_taken t i) low is waits none refl (record { action = refl; cache = refl; thread = refl; reservation = refl; busy = λ b. b }) (λ kept. probed_kept kept x i t low is)
deliver_heard {w} {s} a i x t (ProbeReply goes clock) rest low is number below waits none =
    about_none a i x t (ProbeReply goes clock) rest (reply_taken w t goes clock t.core.status) low is waits none refl (reply_leaves w t goes clock t.core.status refl) (λ kept. reply_kept kept x t goes clock low is)
deliver_heard a i x t _ rest low is number below waits none = cc
