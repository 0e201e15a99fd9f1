-- A byte of a write is read: by a step that has its line, or when the line comes.
use Rattle.std.proofs.Common.{◌≡◌, ℕ, ◌+◌, ◌<◌, true, false, List, [], ◌∷◌, ◌++◌, length, Some, None, refl, sym, ap, ◌∙◌, arith}
use Rattle.std.proofs.lemmas.Bool.Decides.{nat_tests}
use Rattle.std.proofs.lemmas.Bool.{cond-true}
use Rattle.std.specs.Prelude.{◌%◌, ◌^◌, nat_lt, slice_index, option_and_then}
use Rattle.std.specs.Option.{option_map}
use Rattle.sim_base.specs.declared.actions.Action.TheVariants.{Load}
use Rattle.sim_base.specs.declared.lines.LineData.{LineData}
use Rattle.elf_image.specs.Layout.{Setup}
use Rattle.wire_msg.specs.declared.messages.Msg.{Msg}
use Rattle.flat_machine.specs.declared.threads.Thread.{Thread}
use Rattle.flat_machine.specs.declared.threads.Status.{Status as FlatStatus}
use Rattle.flat_machine.specs.declared.threads.Status.TheVariants.{Writing as FlatWriting}
use Rattle.flat_machine.specs.Memory.{byte_at}
use Rattle.flat_machine.specs.State.{State as Flat, with_thread}
use Rattle.flat_machine.specs.Serving.{fate_by}
use Rattle.flat_machine.specs.Action.{loaded_by, loaded}
use Rattle.tile_core.specs.Gathering.{Gathering, is_gathered, with_byte}
use Rattle.tile_core.specs.Core.{line_at, next_byte}
use Rattle.tile_node.specs.Tile.{place_in_line}
use Rattle.control_server.specs.Control.{Control}
use Rattle.event_journal.specs.State.{State}
use Rattle.node_machine.specs.declared.nodes.Node.{Node}
use Rattle.agreement_laws.specs.Phases.{Hart, gathers, Going, writes, on, status_working, status_going}
use Rattle.agreement_laws.specs.Sides.{side_of, place_of, reports_going}
use Rattle.agreement_laws.specs.Spots.{spot, spot_at}
use Rattle.agreement_laws.specs.Kept.{Kept}
use Rattle.agreement_laws.specs.Whole.{Memory, AgreesOn}
use Rattle.agreement_laws.proofs.Threads.{get_set_here}
use Rattle.agreement_laws.proofs.Stand.{Changed}
use Rattle.agreement_laws.proofs.AtTile.{Elsewhere, stays_moves}
use Rattle.agreement_laws.proofs.LocalStep.{one_changes}
use Rattle.agreement_laws.proofs.Sending.{place_is}
use Rattle.agreement_laws.proofs.GoingOn.{on_thread}

-- the byte that the tile reads, in its line's value
abbrev pub byte_read : (ℕ → LineData) → Gathering → ℕ
byte_read value write = slice_index (value (line_at (next_byte write))).bytes (place_in_line (next_byte write))

-- on the flat machine
abbrev pub with_next : Memory → Gathering → Thread → Thread
with_next memory write th = record th { status = FlatWriting write.addr write.len (write.got ++ byte_at memory ((write.addr + length write.got) % 2 ^ 64) ∷ []) }

not_all : (write : Gathering) → is_gathered write ≡ false → nat_lt (length write.got) write.len ≡ true
not_all write e = grind (arith, nat_tests)

pub load_kept : {w : Setup} {s : State Node Msg} {c : Control} {f : Flat} (k : Kept w s c f) (s' : State Node Msg) (x u : ℕ) (regs : List ℕ) (pc : ℕ) (going : Going) (write : Gathering) (value : ℕ → LineData)
    → x < w.config.tiles → k.phase u ≡ on (record { tile = x; regs = regs; pc = pc }) going → status_going going ≡ status_working (gathers write) → reports_going x going ≡ None ∷ [] → is_gathered write ≡ false
    → AgreesOn f.memory value → Elsewhere w s s' x → spot w s' x ≡ spot_at u (on (record { tile = x; regs = regs; pc = pc }) (writes (with_byte write (byte_read value write))))
    → Changed w s' c f u (Load u) (with_next f.memory write)
load_kept {w} {s} {c} {f} k s' x u regs pc going write value low phase status reports more agrees elsewhere here =
    let h : Hart = record { tile = x; regs = regs; pc = pc } in
    let there = on_thread k u h going phase in
    let th : Thread = there.thread in
    let th' : Thread = with_next f.memory write th in
    let is_writing : th.status ≡ FlatWriting write.addr write.len write.got = there.status ∙ status in
    let g : Flat = with_thread f u th' in
    let byte : byte_at f.memory ((write.addr + length write.got) % 2 ^ 64) ≡ byte_read value write = agrees ((write.addr + length write.got) % 2 ^ 64) in
    let new : FlatStatus = FlatWriting write.addr write.len (write.got ++ byte_read value write ∷ []) in
    let status' : th'.status ≡ new = ap (λ b. FlatWriting write.addr write.len (write.got ++ b ∷ [])) byte in
    record {
      thread = th;
      is_thread = there.is_thread;
      legal =
          ap (λ o. option_map (with_thread f u) (option_and_then (loaded f.memory) o)) there.is_thread
          ∙ (ap (λ z. option_map (with_thread f u) (loaded_by f.memory th z)) is_writing
          ∙ ap (option_map (with_thread f u)) (cond-true (nat_lt (length write.got) write.len) (Some th') None (not_all write more)));
      threads =
          stays_moves k s' g x u (on h going) (on h (writes (with_byte write (byte_read value write)))) th' phase refl refl (get_set_here f.threads u th' th there.is_thread)
          (one_changes f u th th' there.is_thread (ap (fate_by th.joiner) (sym is_writing))) elsewhere
          (λ host. ap (λ z. record (side_of w u host (on h going)) { status = Some z; place = place_of th' }) status'
          ∙ (ap (λ o. record (side_of w u host (on h going)) { status = Some new; place = o }) (place_is th x regs pc there.regs there.pc there.place)
          ∙ ap (λ rs. record (side_of w u host (on h going)) { status = Some new; place = Some h; reports = rs }) reports)) tt (low, tt, tt) here;
    }
