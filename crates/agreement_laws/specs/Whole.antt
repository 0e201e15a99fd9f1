-- What is kept of a state of the machine and a state of the flat machine: of threads, of reservations and of memory. This
-- simulator's own.
use Rattle.std.specs.Prelude.{ℕ, ◌≡◌, ◌≢◌, ◌≤◌, ◌+◌, ◌/◌, ◌%◌, Option, Some, None, slice_get}
use Rattle.std.specs.FinMap.{FinMap, contains_key}
use Rattle.std.specs.Ordering.{nat_cmp}
use Rattle.sim_base.specs.declared.actions.Action.{Action}
use Rattle.sim_base.specs.declared.lines.LineData.{LineData}
use Rattle.sim_base.specs.Numbering.{control_node}
use Rattle.elf_image.specs.Layout.{Setup}
use Rattle.wire_msg.specs.declared.messages.Msg.{Msg}
use Rattle.rv_hart.specs.declared.reservations.Span.{Span}
use Rattle.flat_machine.specs.declared.threads.Thread.{Thread}
use Rattle.flat_machine.specs.Memory.{byte_at, start_memory}
use Rattle.flat_machine.specs.State.{State as Flat}
use Rattle.flat_machine.specs.Action.{act}
use Rattle.tile_cache.specs.Copy.{copy_of}
use Rattle.tile_core.specs.declared.cores.Status.TheVariants.{Idle}
use Rattle.tile_node.specs.Tile.{Tile as TileData}
use Rattle.control_server.specs.Control.{Control, IsOrderly}
use Rattle.event_journal.specs.State.{State}
use Rattle.node_machine.specs.declared.nodes.Node.{Node}
use Rattle.node_machine.specs.declared.nodes.Node.TheVariants.{Tile, Control as ControlNode}
use Rattle.coherence_laws.specs.Coherence.{IsWritable}
use Rattle.agreement_laws.specs.Agreement.{byte_in}
use Rattle.agreement_laws.specs.Kept.{Kept}

-- the flat memory has the byte of its line's value at each address, and zero where nothing is mapped, as the line has
abbrev pub Memory : Type 0
Memory = FinMap nat_cmp ℕ

abbrev pub AgreesOn : Memory → (ℕ → LineData) → Type 0
AgreesOn memory value = (address : ℕ) → byte_at memory address ≡ byte_in value address

-- a reservation of a tile lies in one line, which the tile has to write
pub record IsHeld (t : TileData) (span : Span) : Type 0 where
  pub room : span.addr % 64 + span.size ≤ 64
  pub copy : IsWritable (copy_of t.cache (span.addr / 64))

abbrev pub ReservationsHeld : State Node Msg → Type 0
ReservationsHeld s = (tile : ℕ) (t : TileData) (span : Span) → s.node tile ≡ Tile t → t.core.reservation ≡ Some span → IsHeld t span

-- and its thread has it on the flat machine too
abbrev pub StandsToo : Option Span → Option Span → Type 0
StandsToo here there = (span : Span) → here ≡ Some span → there ≡ Some span

abbrev pub ReservationsStand : State Node Msg → Flat → Type 0
ReservationsStand s f = (tile : ℕ) (t : TileData) (thread : Thread) → s.node tile ≡ Tile t → t.core.status ≢ Idle → slice_get f.threads t.core.thread ≡ Some thread
    → StandsToo t.core.reservation thread.reservation

-- the whole, for a state in which each line has a value
pub record Whole (w : Setup) (s : State Node Msg) (value : ℕ → LineData) (f : Flat) : Type 0 where
  pub server : Control
  pub is_server : s.node (control_node w.config) ≡ ControlNode server
  pub orderly : IsOrderly w server
  pub threads : Kept w s server f
  pub held : ReservationsHeld s
  pub stand : ReservationsStand s f
  pub bytes : AgreesOn f.memory value
  pub mapped : (address : ℕ) → contains_key f.memory address ≡ contains_key (start_memory w) address

-- the flat state after what an event commits, if it does; none where that isn't legal
abbrev pub acted : Setup → Flat → Option Action → Option Flat
acted w f None = Some f
acted w f (Some action) = act w f action
