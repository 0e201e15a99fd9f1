-- Every step of a tile: what it commits is legal on the flat machine, and all is kept.
use Rattle.std.proofs.Common.{◌≡◌, ◌≢◌, ℕ, ◌+◌, ◌<◌, true, slice_get, Some, None, sym, ap, ◌∙◌, subst}
use Rattle.std.proofs.lemmas.Bool.{cond-true}
use Rattle.std.specs.Prelude.{◌==◌}
use Rattle.std.specs.FinMap.{contains_key}
use Rattle.sim_base.specs.declared.actions.Action.{Action}
use Rattle.sim_base.specs.declared.lines.LineData.{LineData}
use Rattle.rv_exec.specs.declared.access.AccessOp.{AccessOp}
use Rattle.rv_exec.specs.declared.access.AccessOp.TheVariants.{Load, Store, Lr, Sc, Amo}
use Rattle.rv_exec.specs.Access.{Asked}
use Rattle.elf_image.specs.Layout.{Setup}
use Rattle.wire_msg.specs.declared.messages.Msg.{Msg}
use Rattle.wire_msg.specs.declared.lines.Want.TheVariants.{Write as ToWrite}
use Rattle.flat_machine.specs.declared.threads.Thread.{Thread}
use Rattle.flat_machine.specs.State.{State as Flat}
use Rattle.tile_cache.specs.declared.ways.Hold.{Hold}
use Rattle.tile_cache.specs.declared.ways.Hold.TheVariants.{S, M}
use Rattle.tile_cache.specs.declared.ways.Way.{Way}
use Rattle.tile_cache.specs.Cache.{way_of}
use Rattle.tile_cache.specs.Copy.{copy_of, copy_in, held_as}
use Rattle.tile_core.specs.declared.cores.Status.{Status}
use Rattle.tile_core.specs.declared.cores.Status.TheVariants.{Idle, Run, Miss, Called, Writing, AtBarrier, Probing, Trapped}
use Rattle.tile_core.specs.declared.plans.Plan.TheVariants.{Access}
use Rattle.tile_core.specs.Core.{line_at}
use Rattle.tile_core.specs.Plan.{plan_of}
use Rattle.tile_node.specs.Tile.{Tile as TileData, Act, suits, access_want}
use Rattle.tile_node.specs.Step.{steps_in, accesses, accesses_by, tile_step}
use Rattle.event_journal.specs.declared.events.Event.TheVariants.{Step}
use Rattle.event_journal.specs.State.{State, changed}
use Rattle.node_machine.specs.declared.nodes.Node.{Node}
use Rattle.node_machine.specs.declared.nodes.Node.TheVariants.{Tile}
use Rattle.node_machine.specs.Machine.{change_of, of_tile}
use Rattle.coherence_laws.specs.Part.{copy_at}
use Rattle.coherence_laws.specs.Coherence.{IsWritable, HasData}
use Rattle.coherence_laws.proofs.Events.{Sound, values_after, holds_coherent}
use Rattle.coherence_laws.proofs.Holds.{IsNodeOf}
use Rattle.agreement_laws.specs.Kept.{Kept}
use Rattle.agreement_laws.specs.Whole.{StandsToo}
use Rattle.agreement_laws.proofs.Moves.{same_is}
use Rattle.agreement_laws.proofs.LocalStep.{node_other}
use Rattle.agreement_laws.proofs.Steps.{line_after}
use Rattle.agreement_laws.proofs.Stand.{who_sits, Made, Changed, changed_made, silent_made}
use Rattle.agreement_laws.proofs.Accessing.{accessed_made}
use Rattle.agreement_laws.proofs.AccessStep.{hit_kept}
use Rattle.agreement_laws.proofs.Pending.{plan_asks}
use Rattle.agreement_laws.proofs.Proper.{IsProper, step_proper}
use Rattle.agreement_laws.proofs.Mapped.{granted_mapped}
use Rattle.agreement_laws.proofs.Reserved.{modified_stays}
use Rattle.agreement_laws.proofs.Whole.{All}

-- what is to be shown of an act of tile x
pub record Outcome (w : Setup) (s : State Node Msg) (value : ℕ → LineData) (f : Flat) (a : All w s value f) (x : ℕ) (act : Act) : Type 0 where
  pub made : Made w (changed s x (change_of (of_tile act))) a.whole.server f (values_after w s (Step x) value) act.action

pub busy_is : (status : Status) → steps_in status ≡ true → status ≢ Idle
busy_is Run can = λ e. cc
busy_is Writing can = λ e. cc
busy_is Idle can = cc
busy_is (Miss access) can = cc
busy_is Called can = cc
busy_is (AtBarrier b) can = cc
busy_is (Probing b partner replies) can = cc
busy_is Trapped can = cc

-- an act that commits nothing, or that changes one thread alone
pub silent_act : {w : Setup} {s : State Node Msg} {value : ℕ → LineData} {f : Flat} (a : All w s value f) (x : ℕ) (t : TileData) (act : Act) → s.node x ≡ Tile t → t.core.status ≢ Idle
    → act.action ≡ None → act.tile.core.thread ≡ t.core.thread → act.tile.core.reservation ≡ t.core.reservation → ((k : ℕ) → values_after w s (Step x) value k ≡ value k)
    → Kept w (changed s x (change_of (of_tile act))) a.whole.server f → Outcome w s value f a x act
silent_act {w} {s} {value} {f} a x t act is busy none thread reservation values kept = record {
  made = subst (λ o. Made w (changed s x (change_of (of_tile act))) a.whole.server f (values_after w s (Step x) value) o) (sym none)
      (silent_made a.whole.threads (changed s x (change_of (of_tile act))) x t act.tile value (values_after w s (Step x) value) a.whole.stand is (cond-true (x == x) _ _ (same_is x))
      (λ y far. node_other s x (change_of (of_tile act)) y far) (λ some. busy) thread (λ span e. sym reservation ∙ e) values a.whole.bytes kept);
}

pub changed_act : {w : Setup} {s : State Node Msg} {value : ℕ → LineData} {f : Flat} (a : All w s value f) (x : ℕ) (t : TileData) (act : Act) (action : Action) (new : Thread → Thread) → x < w.config.tiles → s.node x ≡ Tile t → t.core.status ≢ Idle
    → act.action ≡ Some action → act.tile.core.thread ≡ t.core.thread → ((th : Thread) → StandsToo t.core.reservation th.reservation → StandsToo act.tile.core.reservation (new th).reservation)
    → ((k : ℕ) → values_after w s (Step x) value k ≡ value k) → Changed w (changed s x (change_of (of_tile act))) a.whole.server f t.core.thread action new → Outcome w s value f a x act
changed_act {w} {s} {value} {f} a x t act action new low is busy commits thread own values made = record {
  made = subst (λ o. Made w (changed s x (change_of (of_tile act))) a.whole.server f (values_after w s (Step x) value) o) (sym commits)
      (changed_made a.whole.threads (changed s x (change_of (of_tile act))) x t.core.thread act.tile action new value (values_after w s (Step x) value) a.sound.nodes a.whole.stand
      (who_sits a.whole.threads x t low is busy) (cond-true (x == x) _ _ (same_is x)) (λ y far. node_other s x (change_of (of_tile act)) y far) thread
      (λ th at some. own th (a.whole.stand x t th is busy at)) values a.whole.bytes made);
}

-- AN ACCESS
held_writable : (op : AccessOp) (hold : Hold) (content : LineData) → suits op hold ≡ true → access_want op ≡ ToWrite → IsWritable (held_as hold content)
held_writable op M content enough write = tt
held_writable Load S content enough write = cc
held_writable Store S content enough write = cc
held_writable Lr S content enough write = cc
held_writable Sc S content enough write = cc
held_writable (Amo o) S content enough write = cc

pub hit_act : {w : Setup} {s : State Node Msg} {value : ℕ → LineData} {f : Flat} (a : All w s value f) (x : ℕ) (t : TileData) (access : Asked) (way : Way) → x < w.config.tiles → s.node x ≡ Tile t
    → t.core.status ≡ Run → plan_of w t.core ≡ Access access → way_of t.cache (line_at access.addr) ≡ Some way → suits access.op way.hold ≡ true
    → tile_step w t ≡ accesses w t access → Sound w (changed s x (change_of (of_tile (tile_step w t)))) (values_after w s (Step x) value)
    → ((k : ℕ) → values_after w s (Step x) value k ≡ line_after value access k) → Outcome w s value f a x (accesses w t access)
hit_act {w} {s} {value} {f} a x t access way low is run plan found enough step after values =
    let u : ℕ = t.core.thread in
    let act : Act = accesses w t access in
    let s' : State Node Msg = changed s x (change_of (of_tile act)) in
    let busy : t.core.status ≢ Idle = λ e. (let z : Run ≡ Idle = sym run ∙ e in cc) in
    let node : IsNodeOf w x (Tile t) = subst (IsNodeOf w x) is (a.sound.nodes x) in
    let can : steps_in t.core.status ≡ true = ap steps_in run in
    let proper : IsProper w access = step_proper w t.core.regs t.core.pc t.core.reservation u access (plan_asks w t.core.regs t.core.pc t.core.reservation u access plan) in
    let too : (th : Thread) → slice_get f.threads u ≡ Some th → StandsToo t.core.reservation th.reservation = λ th at. a.whole.stand x t th is busy at in
    let keys : (i : ℕ) → i < access.size → contains_key f.memory (access.addr + i) ≡ true = λ i small. a.whole.mapped (access.addr + i) ∙ granted_mapped w access i proper.granted small in
    let has : HasData (copy_of t.cache (line_at access.addr)) (value (line_at access.addr)) =
    subst (λ n. HasData (copy_at n (line_at access.addr)) (value (line_at access.addr))) is ((holds_coherent w s (line_at access.addr) (value (line_at access.addr)) (a.sound.lines (line_at access.addr))).copies x) in
    let done = hit_kept a.whole.threads value x t access way low is run plan found enough too proper.room (a.lines (line_at access.addr)) keys has a.whole.bytes in
    let is_act : act ≡ accesses_by w t access (Some way) = ap (accesses_by w t access) found in
    let sound : Sound w s' (values_after w s (Step x) value) = subst (λ (z : Act). Sound w (changed s x (change_of (of_tile z))) (values_after w s (Step x) value)) step after in
    let here : s'.node x ≡ Tile act.tile = cond-true (x == x) _ _ (same_is x) in
    let old : access_want access.op ≡ ToWrite → IsWritable (copy_of t.cache (line_at access.addr)) = λ write. subst (λ o. IsWritable (copy_in o)) (sym found) (held_writable access.op way.hold way.content enough write) in
    let new : access_want access.op ≡ ToWrite → IsWritable (copy_at (s'.node x) (line_at access.addr)) = λ write.
    subst (λ n. IsWritable (copy_at n (line_at access.addr))) (sym here)
    (subst (λ (z : Act). IsWritable (copy_of z.tile.cache (line_at access.addr))) step (modified_stays w t (line_at access.addr) can node.2 (old write))) in
    let full : act ≡ _ = is_act ∙ cond-true (suits access.op way.hold) _ _ enough in
    record {
      made = subst (λ o. Made w s' a.whole.server f (values_after w s (Step x) value) o) (sym (ap (λ (z : Act). z.action) full))
          (accessed_made a.whole.threads s' x u act.tile access value (values_after w s (Step x) value) t.core.reservation a.sound.nodes a.whole.held a.whole.stand (who_sits a.whole.threads x t low is busy) here
          (λ y far. node_other s x (change_of (of_tile act)) y far) (λ k. (holds_coherent w s' k (values_after w s (Step x) value k) (sound.lines k)).writer) proper.room new
          (ap (λ (z : Act). z.tile.core.thread) full) (ap (λ (z : Act). z.tile.core.reservation) full) too values done);
    }
