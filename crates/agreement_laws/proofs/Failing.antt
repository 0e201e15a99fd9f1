-- A store-conditional that fails at its tile, where it may also be one that could be done on the flat machine; and a write that
-- begins.
use Rattle.std.proofs.Common.{◌≡◌, ℕ, ◌<◌, [], slice_get, Some, refl, sym, ap, ◌∙◌, subst}
use Rattle.std.specs.Prelude.{option_and_then}
use Rattle.std.specs.Option.{option_map}
use Rattle.sim_base.specs.declared.actions.Action.TheVariants.{Exec, FailSc}
use Rattle.rv_exec.specs.Registers.{with_register}
use Rattle.rv_hart.specs.Start.{next_pc}
use Rattle.rv_hart.specs.Step.{next_step}
use Rattle.elf_image.specs.Layout.{Setup}
use Rattle.wire_msg.specs.declared.messages.Msg.{Msg}
use Rattle.flat_machine.specs.declared.threads.Thread.{Thread}
use Rattle.flat_machine.specs.declared.threads.Status.TheVariants.{Ready, Writing as FlatWriting}
use Rattle.flat_machine.specs.State.{State as Flat, with_thread}
use Rattle.flat_machine.specs.Action.{step_of, conditional_rd, failed_conditional, failed_by, failed}
use Rattle.tile_core.specs.declared.cores.Status.TheVariants.{Idle, Run}
use Rattle.tile_core.specs.declared.plans.Plan.TheVariants.{ScFails, Write}
use Rattle.tile_core.specs.Gathering.{write_of}
use Rattle.tile_core.specs.Plan.{plan_by, plan_of}
use Rattle.tile_node.specs.Tile.{Tile as TileData}
use Rattle.tile_node.specs.Step.{fails_conditional, begins_write}
use Rattle.control_server.specs.Control.{Control}
use Rattle.event_journal.specs.State.{State, changed}
use Rattle.node_machine.specs.declared.nodes.Node.{Node}
use Rattle.node_machine.specs.declared.nodes.Node.TheVariants.{Tile}
use Rattle.node_machine.specs.Machine.{change_of, of_tile}
use Rattle.agreement_laws.specs.Agreement.{StandsFor}
use Rattle.agreement_laws.specs.Phases.{Hart, runs, writes, Phase, on}
use Rattle.agreement_laws.specs.Sides.{side_of, place_of}
use Rattle.agreement_laws.specs.Spots.{running, Sitting, stance_in, sitting_in, spot_at}
use Rattle.agreement_laws.specs.Kept.{Kept}
use Rattle.agreement_laws.specs.Whole.{StandsToo}
use Rattle.agreement_laws.proofs.Reading.{tile_shows}
use Rattle.agreement_laws.proofs.Threads.{get_set_here}
use Rattle.agreement_laws.proofs.Steps.{IsExecuted, plan_executes}
use Rattle.agreement_laws.proofs.Stand.{Changed}
use Rattle.agreement_laws.proofs.AtTile.{stays_moves}
use Rattle.agreement_laws.proofs.LocalStep.{changed_elsewhere, runs_here, one_changes}
use Rattle.agreement_laws.proofs.Sending.{exec_kept, spot_sent, place_is}

-- A STORE-CONDITIONAL FAILS
pub fail_kept : {w : Setup} {s : State Node Msg} {c : Control} {f : Flat} (k : Kept w s c f) (x : ℕ) (t : TileData) (rd : ℕ) → x < w.config.tiles → s.node x ≡ Tile t → t.core.status ≡ Run
    → plan_of w t.core ≡ ScFails rd → ((th : Thread) → slice_get f.threads t.core.thread ≡ Some th → StandsToo t.core.reservation th.reservation)
    → Changed w (changed s x (change_of (of_tile (fails_conditional w.config t rd)))) c f t.core.thread (FailSc t.core.thread) (λ th. failed_conditional th rd)
fail_kept {w} {s} {c} {f} k x t rd low is run planned too =
    let u : ℕ = t.core.thread in
    let h : Hart = record { tile = x; regs = t.core.regs; pc = t.core.pc } in
    let h' : Hart = record { tile = x; regs = with_register t.core.regs rd 1; pc = next_pc t.core.pc } in
    let shows = tile_shows k x t low is (λ idle. let z : Run ≡ Idle = sym run ∙ idle in cc) in
    let there = shows.1 in
    let th : Thread = there.thread in
    let flat : shows.0 ≡ Ready = subst (λ status. StandsFor status t.core.write t.core.pc shows.0) run shows.2 in
    let ready : th.status ≡ Ready = there.status ∙ flat in
    let th' : Thread = failed_conditional th rd in
    let performed : IsExecuted f.memory th (plan_by w th.pc (next_step w th.regs th.pc t.core.reservation u)) (step_of w u th) = plan_executes w f.memory th t.core.reservation u ready (too th there.is_thread) in
    let same_plan : plan_by w th.pc (next_step w th.regs th.pc t.core.reservation u) ≡ ScFails rd =
    ap (λ z. plan_by w z (next_step w th.regs z t.core.reservation u)) there.pc ∙ (ap (λ z. plan_by w t.core.pc (next_step w z t.core.pc t.core.reservation u)) there.regs ∙ planned) in
    let does : option_map (failed_conditional th) (conditional_rd (step_of w u th)) ≡ Some th' = subst (λ p. IsExecuted f.memory th p (step_of w u th)) same_plan performed in
    let g : Flat = with_thread f u th' in
    let phase = runs_here k x t low is run in
    let place' : place_of th' ≡ Some h' =
    ap (λ z. option_map {U = Hart} (λ tile. record { tile = tile; regs = with_register th.regs rd 1; pc = next_pc th.pc }) z) there.place
    ∙ (ap (λ z. Some (record { tile = x; regs = with_register z rd 1; pc = next_pc th.pc })) there.regs
    ∙ ap (λ z. Some (record { tile = x; regs = with_register t.core.regs rd 1; pc = next_pc z })) there.pc) in
    let sits : sitting_in x (fails_conditional w.config t rd).tile.core ≡ Some (record { thread = u; hart = h'; stance = running }) =
    ap (λ status. option_map {U = Sitting} (λ stance. record { thread = u; hart = h'; stance = stance }) (stance_in status t.core.write)) run in
    record {
      thread = th;
      is_thread = there.is_thread;
      legal =
          ap (λ o. option_map (with_thread f u) (option_and_then (failed w u) o)) there.is_thread
          ∙ (ap (λ status. option_map (with_thread f u) (failed_by w u th status)) ready ∙ ap (option_map (with_thread f u)) does);
      threads =
          stays_moves k (changed s x (change_of (of_tile (fails_conditional w.config t rd)))) g x u (on h runs) (on h' runs) th' phase refl refl (get_set_here f.threads u th' th there.is_thread)
          (one_changes f u th th' there.is_thread refl) (changed_elsewhere w s x (change_of (of_tile (fails_conditional w.config t rd))) low)
          (λ host. ap (λ o. record (side_of w u host (on h runs)) { status = Some th'.status; place = o }) place' ∙ ap (λ z. record (side_of w u host (on h' runs)) { status = Some z }) ready) tt (low, tt, tt)
          (spot_sent k x t (fails_conditional w.config t rd).tile [] (spot_at u (on h' runs)) low phase sits refl refl refl refl);
    }

-- A WRITE BEGINS
pub write_kept : {w : Setup} {s : State Node Msg} {c : Control} {f : Flat} (k : Kept w s c f) (x : ℕ) (t : TileData) (addr len : ℕ) → x < w.config.tiles → s.node x ≡ Tile t → t.core.status ≡ Run
    → plan_of w t.core ≡ Write addr len → ((th : Thread) → slice_get f.threads t.core.thread ≡ Some th → StandsToo t.core.reservation th.reservation)
    → Changed w (changed s x (change_of (of_tile (begins_write t addr len)))) c f t.core.thread (Exec t.core.thread) (λ th. record th { status = FlatWriting addr len [] })
write_kept {w} {s} {c} {f} k x t addr len low is run planned too =
    let p' : Phase = on (record { tile = x; regs = t.core.regs; pc = t.core.pc }) (writes (write_of addr len)) in
    exec_kept k x t (Write addr len) (λ th. record th { status = FlatWriting addr len [] }) p' (change_of (of_tile (begins_write t addr len))) low is run planned too (λ th step e. e) (λ th. refl) refl
    (λ th host regs pc place. ap (λ o. record (side_of w t.core.thread host p') { place = o }) (place_is th x t.core.regs t.core.pc regs pc place)) tt (low, tt, tt)
    (spot_sent k x t (begins_write t addr len).tile [] (spot_at t.core.thread p') low (runs_here k x t low is run) refl refl refl refl refl)
