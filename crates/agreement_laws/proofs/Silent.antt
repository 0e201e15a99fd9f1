-- Steps of a tile that commit nothing: the barrier, the probe, a write that is sent, and a byte whose line is missed.
use Rattle.std.proofs.Common.{◌≡◌, ℕ, ◌<◌, ◌≤◌, Bool, true, false, [], ◌∷◌, length, Some, None, refl, ap, arith}
use Rattle.std.proofs.lemmas.Bool.Decides.{nat_tests}
use Rattle.std.specs.Prelude.{◌==◌}
use Rattle.sim_base.specs.Numbering.{home_of, control_node, local_node, host_of}
use Rattle.elf_image.specs.Layout.{Setup}
use Rattle.wire_msg.specs.declared.calls.Call.TheVariants.{Write as WriteCall}
use Rattle.wire_msg.specs.declared.messages.Msg.{Msg}
use Rattle.wire_msg.specs.declared.messages.Msg.TheVariants.{Call, Reached, Probe}
use Rattle.wire_msg.specs.declared.lines.Up.TheVariants.{Asks}
use Rattle.wire_msg.specs.declared.lines.Want.TheVariants.{Read}
use Rattle.clock_policy.specs.Probe.{partner_of}
use Rattle.flat_machine.specs.State.{State as Flat}
use Rattle.tile_core.specs.declared.cores.Status.TheVariants.{Writing}
use Rattle.tile_core.specs.Gathering.{Gathering, is_gathered}
use Rattle.tile_node.specs.Tile.{Tile as TileData, up_message}
use Rattle.tile_node.specs.Step.{steps_in, is_writing, reaches, probes as probes_step, misses as misses_line, sends_write}
use Rattle.control_server.specs.Control.{Control}
use Rattle.event_journal.specs.State.{State, messages_to, changed}
use Rattle.node_machine.specs.declared.nodes.Node.{Node}
use Rattle.node_machine.specs.declared.nodes.Node.TheVariants.{Tile}
use Rattle.node_machine.specs.Machine.{change_of, of_tile}
use Rattle.agreement_laws.specs.Seen.{of_threads}
use Rattle.agreement_laws.specs.Phases.{Hart, Work, executes, gathers, on_way, runs, writes, misses_byte, stops, probes, by_write, on, calling}
use Rattle.agreement_laws.specs.Spots.{stopped, probing, work_in, sitting_in}
use Rattle.agreement_laws.specs.Kept.{Kept}
use Rattle.agreement_laws.proofs.LocalStep.{changed_elsewhere}
use Rattle.agreement_laws.proofs.Sending.{spot_acts, one_here, one_there, local_apart}
use Rattle.agreement_laws.proofs.Misses.{asks_silent}
use Rattle.agreement_laws.proofs.GoingOn.{spot_on, turns, begins, Works, works_here, writes_here}

-- THE BARRIER: the limit is reached
pub reach_kept : {w : Setup} {s : State Node Msg} {c : Control} {f : Flat} (k : Kept w s c f) (x : ℕ) (t : TileData) → x < w.config.tiles → s.node x ≡ Tile t → steps_in t.core.status ≡ true
    → Kept w (changed s x (change_of (of_tile (reaches w t)))) c f
reach_kept {w} {s} {c} {f} k x t low is can = by_work works.work works.phase_is works.work_is where
  works : Works k.phase x t.core
  works = works_here k x t low is can

  to_control : of_threads (messages_to (control_node w.config) ((control_node w.config, Reached t.core.thread) ∷ [])) ≡ Reached t.core.thread ∷ []
  to_control = one_here (control_node w.config) (Reached t.core.thread) refl

  to_local : of_threads (messages_to (local_node w.config (host_of w.config x)) ((control_node w.config, Reached t.core.thread) ∷ [])) ≡ []
  to_local = one_there (control_node w.config) _ (Reached t.core.thread) (local_apart (control_node w.config) (host_of w.config x))

  sits : (work : Work) → work_in (is_writing t.core.status) t.core.write ≡ work
      → sitting_in x (reaches w t).tile.core ≡ Some (record { thread = t.core.thread; hart = record { tile = x; regs = t.core.regs; pc = t.core.pc }; stance = stopped work })
  sits work e = ap (λ z. Some (record { thread = t.core.thread; hart = record { tile = x; regs = t.core.regs; pc = t.core.pc }; stance = stopped z })) e

  by_work : (work : Work) → k.phase t.core.thread ≡ on (record { tile = x; regs = t.core.regs; pc = t.core.pc }) (begins work) → work_in (is_writing t.core.status) t.core.write ≡ work
      → Kept w (changed s x (change_of (of_tile (reaches w t)))) c f
  by_work executes phase e =
      turns k (changed s x (change_of (of_tile (reaches w t)))) x t.core.thread t.core.regs t.core.pc runs (on (record { tile = x; regs = t.core.regs; pc = t.core.pc }) (stops executes on_way)) phase refl (changed_elsewhere w s x (change_of (of_tile (reaches w t))) low) (λ host. refl) tt (low, tt, tt)
      (spot_acts w s x (reaches w t).tile ((control_node w.config, Reached t.core.thread) ∷ []) _ _ low (spot_on k x t.core.thread _ low phase refl) (sits executes e) to_control to_local refl refl)
  by_work (gathers write) phase e =
      turns k (changed s x (change_of (of_tile (reaches w t)))) x t.core.thread t.core.regs t.core.pc (writes write) (on (record { tile = x; regs = t.core.regs; pc = t.core.pc }) (stops (gathers write) on_way)) phase refl (changed_elsewhere w s x (change_of (of_tile (reaches w t))) low) (λ host. refl) tt (low, tt, tt)
      (spot_acts w s x (reaches w t).tile ((control_node w.config, Reached t.core.thread) ∷ []) _ _ low (spot_on k x t.core.thread _ low phase refl) (sits (gathers write) e) to_control to_local refl refl)

-- THE PROBE: another tile is asked its clock
pub probe_silent : (partner to : ℕ) → of_threads (messages_to to ((partner, Probe) ∷ [])) ≡ []
probe_silent partner to = by_test (partner == to) refl where
  by_test : (b : Bool) → (partner == to) ≡ b → of_threads (messages_to to ((partner, Probe) ∷ [])) ≡ []
  by_test true e = rw e refl
  by_test false e = rw e refl

pub probe_kept : {w : Setup} {s : State Node Msg} {c : Control} {f : Flat} (k : Kept w s c f) (x : ℕ) (t : TileData) → x < w.config.tiles → s.node x ≡ Tile t → steps_in t.core.status ≡ true
    → Kept w (changed s x (change_of (of_tile (probes_step t)))) c f
probe_kept {w} {s} {c} {f} k x t low is can = by_work works.work works.phase_is works.work_is where
  works : Works k.phase x t.core
  works = works_here k x t low is can

  sits : (work : Work) → work_in (is_writing t.core.status) t.core.write ≡ work
      → sitting_in x (probes_step t).tile.core ≡ Some (record { thread = t.core.thread; hart = record { tile = x; regs = t.core.regs; pc = t.core.pc }; stance = probing work (partner_of t.probes) 0 })
  sits work e = ap (λ z. Some (record { thread = t.core.thread; hart = record { tile = x; regs = t.core.regs; pc = t.core.pc }; stance = probing z (partner_of t.probes) 0 })) e

  by_work : (work : Work) → k.phase t.core.thread ≡ on (record { tile = x; regs = t.core.regs; pc = t.core.pc }) (begins work) → work_in (is_writing t.core.status) t.core.write ≡ work
      → Kept w (changed s x (change_of (of_tile (probes_step t)))) c f
  by_work executes phase e =
      turns k (changed s x (change_of (of_tile (probes_step t)))) x t.core.thread t.core.regs t.core.pc runs (on (record { tile = x; regs = t.core.regs; pc = t.core.pc }) (probes executes (partner_of t.probes) 0)) phase refl (changed_elsewhere w s x (change_of (of_tile (probes_step t))) low) (λ host. refl) tt (low, tt, tt)
      (spot_acts w s x (probes_step t).tile ((partner_of t.probes, Probe) ∷ []) _ _ low (spot_on k x t.core.thread _ low phase refl) (sits executes e) (probe_silent (partner_of t.probes) _) (probe_silent (partner_of t.probes) _) refl refl)
  by_work (gathers write) phase e =
      turns k (changed s x (change_of (of_tile (probes_step t)))) x t.core.thread t.core.regs t.core.pc (writes write) (on (record { tile = x; regs = t.core.regs; pc = t.core.pc }) (probes (gathers write) (partner_of t.probes) 0)) phase refl (changed_elsewhere w s x (change_of (of_tile (probes_step t))) low) (λ host. refl) tt (low, tt, tt)
      (spot_acts w s x (probes_step t).tile ((partner_of t.probes, Probe) ∷ []) _ _ low (spot_on k x t.core.thread _ low phase refl) (sits (gathers write) e) (probe_silent (partner_of t.probes) _) (probe_silent (partner_of t.probes) _) refl refl)

-- A WRITE whose bytes are all read is sent
full_write : (write : Gathering) → is_gathered write ≡ true → write.len ≤ length write.got
full_write write e = grind (arith, nat_tests)

pub sent_kept : {w : Setup} {s : State Node Msg} {c : Control} {f : Flat} (k : Kept w s c f) (x : ℕ) (t : TileData) → x < w.config.tiles → s.node x ≡ Tile t → t.core.status ≡ Writing → is_gathered t.core.write ≡ true
    → Kept w (changed s x (change_of (of_tile (sends_write w t)))) c f
sent_kept {w} {s} {c} {f} k x t low is so all =
    let h : Hart = record { tile = x; regs = t.core.regs; pc = t.core.pc } in
    let n : ℕ = control_node w.config in
    let u : ℕ = t.core.thread in
    let msg : Msg = Call u t.core.clock (WriteCall t.core.write.got) in
    let phase = writes_here k x t low is so in
    turns k (changed s x (change_of (of_tile (sends_write w t)))) x u t.core.regs t.core.pc (writes t.core.write) (calling h (by_write t.core.write) t.core.clock) phase refl (changed_elsewhere w s x (change_of (of_tile (sends_write w t))) low) (λ host. refl) tt (low, full_write t.core.write all)
    (spot_acts w s x (sends_write w t).tile ((n, msg) ∷ []) _ _ low (spot_on k x u _ low phase refl) refl (one_here n msg refl) (one_there n _ msg (local_apart n (host_of w.config x))) refl refl)

-- A BYTE whose line isn't there: the thread waits for the line
pub missed_kept : {w : Setup} {s : State Node Msg} {c : Control} {f : Flat} (k : Kept w s c f) (x : ℕ) (t : TileData) (line : ℕ) → x < w.config.tiles → s.node x ≡ Tile t → t.core.status ≡ Writing
    → Kept w (changed s x (change_of (of_tile (misses_line w t line Read None)))) c f
missed_kept {w} {s} {c} {f} k x t line low is so =
    let h : Hart = record { tile = x; regs = t.core.regs; pc = t.core.pc } in
    let u : ℕ = t.core.thread in
    let home : ℕ = home_of w.config line in
    let phase = writes_here k x t low is so in
    turns k (changed s x (change_of (of_tile (misses_line w t line Read None)))) x u t.core.regs t.core.pc (writes t.core.write) (on h (misses_byte t.core.write)) phase refl (changed_elsewhere w s x (change_of (of_tile (misses_line w t line Read None))) low) (λ host. refl) tt (low, tt, tt)
    (spot_acts w s x (misses_line w t line Read None).tile ((home, up_message line (Asks Read)) ∷ []) _ _ low (spot_on k x u _ low phase refl) refl (asks_silent line home Read (control_node w.config))
    (asks_silent line home Read (local_node w.config (host_of w.config x))) refl refl)
