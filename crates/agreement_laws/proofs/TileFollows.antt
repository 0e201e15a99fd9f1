-- A step of a tile, put together: by its plan, by its write, and by the policies.
use Rattle.std.proofs.Common.{◌≡◌, ◌≢◌, ℕ, ◌<◌, true, false, [], slice_get, Option, Some, None, refl, sym, ap, ◌∙◌, inl, inr, subst}
use Rattle.std.proofs.lemmas.Bool.{cases_Bool, cond-true, cond-false}
use Rattle.std.specs.Prelude.{if◌then◌else◌, slice_index}
use Rattle.std.specs.Option.{option_map}
use Rattle.sim_base.specs.declared.actions.Action.TheVariants.{Exec, FailSc, Load as LoadByte}
use Rattle.sim_base.specs.declared.lines.LineData.{LineData}
use Rattle.rv_exec.specs.Access.{Asked}
use Rattle.rv_hart.specs.Reservation.{is_conditional}
use Rattle.rv_hart.specs.Step.{next_step}
use Rattle.rv_hart.specs.declared.steps.Step.TheVariants.{Access as AccessStep}
use Rattle.rv_exec.specs.Registers.{with_register}
use Rattle.elf_image.specs.Layout.{Setup}
use Rattle.wire_msg.specs.declared.messages.Msg.{Msg}
use Rattle.wire_msg.specs.declared.lines.Want.TheVariants.{Read as ToRead}
use Rattle.flat_machine.specs.declared.threads.Thread.{Thread}
use Rattle.flat_machine.specs.declared.threads.Status.TheVariants.{Ready, Asked as FlatAsked, Writing as FlatWriting, Left, Trapped as FlatTrapped}
use Rattle.flat_machine.specs.State.{State as Flat}
use Rattle.flat_machine.specs.Action.{failed_conditional}
use Rattle.tile_cache.specs.declared.ways.Way.{Way}
use Rattle.tile_cache.specs.Cache.{way_of}
use Rattle.tile_cache.specs.Copy.{copy_of}
use Rattle.tile_core.specs.declared.cores.Status.{Status}
use Rattle.tile_core.specs.declared.cores.Status.TheVariants.{Idle, Run, Miss, Called, Writing, AtBarrier, Probing, Trapped}
use Rattle.tile_core.specs.declared.plans.Plan.{Plan}
use Rattle.tile_core.specs.declared.plans.Plan.TheVariants.{Local, Access, ScFails, Send, Exit, Write, Trap}
use Rattle.tile_core.specs.Gathering.{is_gathered, with_byte}
use Rattle.tile_core.specs.Core.{line_at, next_byte}
use Rattle.tile_core.specs.Plan.{plan_of}
use Rattle.tile_node.specs.Tile.{Tile as TileData, Act, suits, access_want, place_in_line}
use Rattle.tile_node.specs.Step.{steps_in, is_writing, waits_for_limit, looks_around, reaches, probes, misses, sends_write, reads_byte_by, writes, follows, accesses, accesses_by, does_locally, fails_conditional, sends_call, exits, begins_write, traps, works, tile_step}
use Rattle.tile_node.specs.OneLine.{nothing}
use Rattle.event_journal.specs.declared.events.Event.TheVariants.{Step}
use Rattle.event_journal.specs.State.{State, changed}
use Rattle.node_machine.specs.declared.nodes.Node.{Node}
use Rattle.node_machine.specs.declared.nodes.Node.TheVariants.{Tile}
use Rattle.node_machine.specs.Machine.{change_of, of_tile}
use Rattle.coherence_laws.specs.Part.{copy_at}
use Rattle.coherence_laws.specs.Coherence.{HasData}
use Rattle.coherence_laws.proofs.Events.{Sound, values_after, holds_coherent}
use Rattle.coherence_laws.proofs.Holds.{IsNodeOf}
use Rattle.agreement_laws.specs.Phases.{Hart}
use Rattle.agreement_laws.specs.Phases.{writes as writes_phase}
use Rattle.agreement_laws.specs.Spots.{writing, Sitting, stance_in, sitting_in}
use Rattle.agreement_laws.specs.Whole.{StandsToo}
use Rattle.agreement_laws.proofs.LocalStep.{changed_elsewhere, local_kept}
use Rattle.agreement_laws.proofs.Sending.{call_kept, trap_kept, exit_kept, spot_acts}
use Rattle.agreement_laws.proofs.Misses.{miss_kept}
use Rattle.agreement_laws.proofs.Failing.{fail_kept, write_kept}
use Rattle.agreement_laws.proofs.AccessStep.{way_value}
use Rattle.agreement_laws.proofs.Loading.{byte_read, with_next, load_kept}
use Rattle.agreement_laws.proofs.GoingOn.{spot_on, writes_here}
use Rattle.agreement_laws.proofs.Silent.{reach_kept, probe_kept, sent_kept, missed_kept}
use Rattle.agreement_laws.proofs.Pending.{plan_asks, pends, conditional_hits}
use Rattle.agreement_laws.proofs.Reserved.{values_hit}
use Rattle.agreement_laws.proofs.StepValues.{stepped_same, nothing_same, writes_same, missed_same, waits_at, looks_at, writing_at, following_at}
use Rattle.agreement_laws.proofs.Whole.{All}
use Rattle.agreement_laws.proofs.TileStep.{Outcome, busy_is, silent_act, changed_act, hit_act}

-- a step for which no policy speaks
pub record IsFree (w : Setup) (t : TileData) : Type 0 where
  pub limit : waits_for_limit w.config.policy t.core.clock t.core.limit ≡ false
  pub alone : looks_around w.config.policy w.config.tiles t.core.clock t.core.next_check ≡ false

-- AN ACCESS THAT MISSES isn't conditional
missed_act : {w : Setup} {s : State Node Msg} {value : ℕ → LineData} {f : Flat} (a : All w s value f) (x : ℕ) (t : TileData) (access : Asked) → x < w.config.tiles → s.node x ≡ Tile t → t.core.status ≡ Run
    → IsFree w t → plan_of w t.core ≡ Access access → ((way : Way) → way_of t.cache (line_at access.addr) ≡ Some way → suits access.op way.hold ≡ false)
    → Outcome w s value f a x (misses w t (line_at access.addr) (access_want access.op) (Some access))
missed_act {w} {s} {value} {f} a x t access low is run free plan miss =
    let core = t.core in
    let busy : t.core.status ≢ Idle = λ e. (let z : Run ≡ Idle = sym run ∙ e in cc) in
    let asks : next_step w core.regs core.pc core.reservation core.thread ≡ AccessStep access = plan_asks w core.regs core.pc core.reservation core.thread access plan in
    let plain : is_conditional access.op ≡ false = elim (cases_Bool (is_conditional access.op)) [
      | inl t' ↦ (let hit = conditional_hits w core.regs core.pc core.reservation core.thread t.cache access asks t' (λ span has. (a.whole.held x t span is has).copy) in
          let no : suits access.op hit.0.hold ≡ false = miss hit.0 hit.1 in let yes : suits access.op hit.0.hold ≡ true = hit.2 in cc)
      | inr n ↦ n
    ] in
    let kept = miss_kept a.whole.threads x t (line_at access.addr) (access_want access.op) access low is run (pends w core.regs core.pc core.reservation core.thread access asks plain) in
    silent_act a x t (misses w t (line_at access.addr) (access_want access.op) (Some access)) is busy refl refl refl
    (λ k. stepped_same w s x t value k _ is (following_at w t k (Access access) free.limit free.alone (ap is_writing run) plan) (missed_same t access k miss)) kept.1

access_act : {w : Setup} {s : State Node Msg} {value : ℕ → LineData} {f : Flat} (a : All w s value f) (x : ℕ) (t : TileData) (access : Asked) → x < w.config.tiles → s.node x ≡ Tile t → t.core.status ≡ Run
    → IsFree w t → plan_of w t.core ≡ Access access → tile_step w t ≡ accesses w t access → Sound w (changed s x (change_of (of_tile (tile_step w t)))) (values_after w s (Step x) value)
    → Outcome w s value f a x (accesses w t access)
access_act {w} {s} {value} {f} a x t access low is run free plan step after = by_way (way_of t.cache (line_at access.addr)) refl where
  missed : ((way : Way) → way_of t.cache (line_at access.addr) ≡ Some way → suits access.op way.hold ≡ false) → accesses w t access ≡ misses w t (line_at access.addr) (access_want access.op) (Some access)
      → Outcome w s value f a x (accesses w t access)
  missed miss e = subst (Outcome w s value f a x) (sym e) (missed_act a x t access low is run free plan miss)

  by_way : (o : Option Way) → way_of t.cache (line_at access.addr) ≡ o → Outcome w s value f a x (accesses w t access)
  by_way None e = missed (λ way found. (let z : None ≡ Some way = sym e ∙ found in cc)) (ap (accesses_by w t access) e)
  by_way (Some way) e = elim (cases_Bool (suits access.op way.hold)) [
    | inl t' ↦ hit_act a x t access way low is run plan e t' step after (λ k. values_hit w s x t access way value k is free.limit free.alone (ap is_writing run) plan e t')
    | inr n ↦ missed (λ other found. (let z : Some way ≡ Some other = sym e ∙ found in let q : way ≡ other = cc in ap (λ (v : Way). suits access.op v.hold) (sym q) ∙ n))
        (ap (accesses_by w t access) e ∙ cond-false (suits access.op way.hold) _ _ n)
  ]

-- BY THE PLAN
follow_act : {w : Setup} {s : State Node Msg} {value : ℕ → LineData} {f : Flat} (a : All w s value f) (x : ℕ) (t : TileData) (plan : Plan) → x < w.config.tiles → s.node x ≡ Tile t → t.number ≡ x → t.core.status ≡ Run
    → IsFree w t → plan_of w t.core ≡ plan → tile_step w t ≡ follows w t plan → Sound w (changed s x (change_of (of_tile (tile_step w t)))) (values_after w s (Step x) value)
    → Outcome w s value f a x (follows w t plan)
follow_act {w} {s} {value} {f} a x t plan low is number run free planned step after = by_plan plan planned step where
  busy : t.core.status ≢ Idle
  busy = λ e. let z : Run ≡ Idle = sym run ∙ e in cc

  too : (th : Thread) → slice_get f.threads t.core.thread ≡ Some th → StandsToo t.core.reservation th.reservation
  too = λ th at. a.whole.stand x t th is busy at

  by_plan : (plan : Plan) → plan_of w t.core ≡ plan → tile_step w t ≡ follows w t plan → Outcome w s value f a x (follows w t plan)
  by_plan (Access access) e step = access_act a x t access low is run free e step after
  by_plan (Local rd value' pc cost answered) e step =
      changed_act a x t (does_locally t rd value' pc cost) (Exec t.core.thread) (λ th. record th { regs = with_register th.regs rd value'; pc = pc; status = Ready }) low is busy refl refl (λ th own. own)
      (λ k. stepped_same w s x t value k nothing is (following_at w t k (Local rd value' pc cost answered) free.limit free.alone (ap is_writing run) e) nothing_same)
      (local_kept a.whole.threads x t rd value' pc cost answered low is run e too)
  by_plan (ScFails rd) e step =
      changed_act a x t (fails_conditional w.config t rd) (FailSc t.core.thread) (λ th. failed_conditional th rd) low is busy refl refl (λ th own span none. cc)
      (λ k. stepped_same w s x t value k nothing is (following_at w t k (ScFails rd) free.limit free.alone (ap is_writing run) e) nothing_same)
      (fail_kept a.whole.threads x t rd low is run e too)
  by_plan (Send call) e step =
      changed_act a x t (sends_call w t call) (Exec t.core.thread) (λ th. record th { status = FlatAsked call }) low is busy refl refl (λ th own. own)
      (λ k. stepped_same w s x t value k nothing is (following_at w t k (Send call) free.limit free.alone (ap is_writing run) e) nothing_same)
      (call_kept a.whole.threads x t call low is run e too)
  by_plan (Exit code) e step =
      changed_act a x t (exits w t code) (Exec t.core.thread) (λ th. record th { tile = None; status = Left code }) low is busy refl refl (λ th own. own)
      (λ k. stepped_same w s x t value k nothing is (following_at w t k (Exit code) free.limit free.alone (ap is_writing run) e) nothing_same)
      (exit_kept a.whole.threads x t code low is number run e too)
  by_plan (Write addr len) e step =
      changed_act a x t (begins_write t addr len) (Exec t.core.thread) (λ th. record th { status = FlatWriting addr len [] }) low is busy refl refl (λ th own. own)
      (λ k. stepped_same w s x t value k nothing is (following_at w t k (Write addr len) free.limit free.alone (ap is_writing run) e) nothing_same)
      (write_kept a.whole.threads x t addr len low is run e too)
  by_plan (Trap cause) e step =
      changed_act a x t (traps w t cause) (Exec t.core.thread) (λ th. record th { status = FlatTrapped cause th.pc }) low is busy refl refl (λ th own. own)
      (λ k. stepped_same w s x t value k nothing is (following_at w t k (Trap cause) free.limit free.alone (ap is_writing run) e) nothing_same)
      (trap_kept a.whole.threads x t cause low is run e too)

-- BY THE WRITE
byte_act : {w : Setup} {s : State Node Msg} {value : ℕ → LineData} {f : Flat} (a : All w s value f) (x : ℕ) (t : TileData) (o : Option Way) → x < w.config.tiles → s.node x ≡ Tile t → t.core.status ≡ Writing → IsFree w t
    → is_gathered t.core.write ≡ false → way_of t.cache (line_at (next_byte t.core.write)) ≡ o → Outcome w s value f a x (reads_byte_by w t (next_byte t.core.write) o)
byte_act {w} {s} {value} {f} a x t None low is so free more found =
    silent_act a x t (misses w t (line_at (next_byte t.core.write)) ToRead None) is (λ e. (let z : Writing ≡ Idle = sym so ∙ e in cc)) refl refl refl
    (λ k. stepped_same w s x t value k _ is (writing_at w t k free.limit free.alone (ap is_writing so)) (writes_same t k)) (missed_kept a.whole.threads x t (line_at (next_byte t.core.write)) low is so)
byte_act {w} {s} {value} {f} a x t (Some way) low is so free more found =
    let u : ℕ = t.core.thread in
    let act : Act = reads_byte_by w t (next_byte t.core.write) (Some way) in
    let line : ℕ = line_at (next_byte t.core.write) in
    let h : Hart = record { tile = x; regs = t.core.regs; pc = t.core.pc } in
    let has : HasData (copy_of t.cache line) (value line) = subst (λ n. HasData (copy_at n line) (value line)) is ((holds_coherent w s line (value line) (a.sound.lines line)).copies x) in
    let content : way.content ≡ value line = way_value t line way (value line) found has in
    let phase = writes_here a.whole.threads x t low is so in
    let sits : sitting_in x act.tile.core ≡ Some (record { thread = u; hart = h; stance = writing (with_byte t.core.write (byte_read value t.core.write)) }) =
    ap (λ status. option_map {U = Sitting} (λ stance. record { thread = u; hart = record { tile = x; regs = t.core.regs; pc = t.core.pc }; stance = stance }) (stance_in status act.tile.core.write)) so ∙ ap (λ (d : LineData). Some (record { thread = u; hart = record { tile = x; regs = t.core.regs; pc = t.core.pc }; stance = writing (with_byte t.core.write (slice_index d.bytes (place_in_line (next_byte t.core.write)))) })) content in
    changed_act a x t act (LoadByte u) (with_next f.memory t.core.write) low is (λ e. (let z : Writing ≡ Idle = sym so ∙ e in cc)) refl refl (λ th own. own)
    (λ k. stepped_same w s x t value k _ is (writing_at w t k free.limit free.alone (ap is_writing so)) (writes_same t k))
    (load_kept a.whole.threads (changed s x (change_of (of_tile act))) x u t.core.regs t.core.pc (writes_phase t.core.write) t.core.write value low phase refl refl more a.whole.bytes
    (changed_elsewhere w s x (change_of (of_tile act)) low)
    (spot_acts w s x act.tile [] _ _ low (spot_on a.whole.threads x u _ low phase refl) sits refl refl refl refl))

writing_act : {w : Setup} {s : State Node Msg} {value : ℕ → LineData} {f : Flat} (a : All w s value f) (x : ℕ) (t : TileData) → x < w.config.tiles → s.node x ≡ Tile t → t.core.status ≡ Writing → IsFree w t → Outcome w s value f a x (writes w t)
writing_act {w} {s} {value} {f} a x t low is so free = elim (cases_Bool (is_gathered t.core.write)) [
  | inl all ↦ subst (Outcome w s value f a x) (sym (cond-true (is_gathered t.core.write) _ _ all))
      (silent_act a x t (sends_write w t) is (λ e. (let z : Writing ≡ Idle = sym so ∙ e in cc)) refl refl refl
      (λ k. stepped_same w s x t value k _ is (writing_at w t k free.limit free.alone (ap is_writing so)) (writes_same t k)) (sent_kept a.whole.threads x t low is so all))
  | inr more ↦ subst (Outcome w s value f a x) (sym (cond-false (is_gathered t.core.write) _ _ more)) (byte_act a x t (way_of t.cache (line_at (next_byte t.core.write))) low is so free more refl)
]

-- THE STEP
work_act : {w : Setup} {s : State Node Msg} {value : ℕ → LineData} {f : Flat} (a : All w s value f) (x : ℕ) (t : TileData) → x < w.config.tiles → s.node x ≡ Tile t → t.number ≡ x → steps_in t.core.status ≡ true → IsFree w t
    → tile_step w t ≡ works w t → Sound w (changed s x (change_of (of_tile (tile_step w t)))) (values_after w s (Step x) value) → Outcome w s value f a x (works w t)
work_act {w} {s} {value} {f} a x t low is number can free step after = by_status t.core.status refl can where
  by_status : (status : Status) → t.core.status ≡ status → steps_in status ≡ true → Outcome w s value f a x (works w t)
  by_status Run e can =
      let same : works w t ≡ follows w t (plan_of w t.core) = ap (λ z. if is_writing z then writes w t else follows w t (plan_of w t.core)) e in
      subst (Outcome w s value f a x) (sym same) (follow_act a x t (plan_of w t.core) low is number e free refl (step ∙ same) after)
  by_status Writing e can =
      let same : works w t ≡ writes w t = ap (λ z. if is_writing z then writes w t else follows w t (plan_of w t.core)) e in
      subst (Outcome w s value f a x) (sym same) (writing_act a x t low is e free)
  by_status Idle e can = cc
  by_status (Miss access) e can = cc
  by_status Called e can = cc
  by_status (AtBarrier b) e can = cc
  by_status (Probing b partner replies) e can = cc
  by_status Trapped e can = cc

pub step_act : {w : Setup} {s : State Node Msg} {value : ℕ → LineData} {f : Flat} (a : All w s value f) (x : ℕ) (t : TileData) → x < w.config.tiles → s.node x ≡ Tile t → steps_in t.core.status ≡ true
    → Sound w (changed s x (change_of (of_tile (tile_step w t)))) (values_after w s (Step x) value) → Outcome w s value f a x (tile_step w t)
step_act {w} {s} {value} {f} a x t low is can after = elim (cases_Bool (waits_for_limit w.config.policy t.core.clock t.core.limit)) [
  | inl e ↦ subst (Outcome w s value f a x) (sym (cond-true (waits_for_limit w.config.policy t.core.clock t.core.limit) _ _ e))
      (silent_act a x t (reaches w t) is (busy_is t.core.status can) refl refl refl (λ k. stepped_same w s x t value k nothing is (waits_at w t k e) nothing_same) (reach_kept a.whole.threads x t low is can))
  | inr free ↦ elim (cases_Bool (looks_around w.config.policy w.config.tiles t.core.clock t.core.next_check)) [
    | inl e ↦
        let same : tile_step w t ≡ probes t = cond-false (waits_for_limit w.config.policy t.core.clock t.core.limit) _ _ free ∙ cond-true (looks_around w.config.policy w.config.tiles t.core.clock t.core.next_check) _ _ e in
        subst (Outcome w s value f a x) (sym same)
        (silent_act a x t (probes t) is (busy_is t.core.status can) refl refl refl (λ k. stepped_same w s x t value k nothing is (looks_at w t k free e) nothing_same) (probe_kept a.whole.threads x t low is can))
    | inr alone ↦
        let same : tile_step w t ≡ works w t = cond-false (waits_for_limit w.config.policy t.core.clock t.core.limit) _ _ free ∙ cond-false (looks_around w.config.policy w.config.tiles t.core.clock t.core.next_check) _ _ alone in
        let number : t.number ≡ x = (subst (IsNodeOf w x) is (a.sound.nodes x)).1 in
        subst (Outcome w s value f a x) (sym same) (work_act a x t low is number can (record { limit = free; alone = alone }) same after)
  ]
]
