-- What a tile has of threads, with its lists, and what the phase of the thread on it says of that. This simulator's own.
use Rattle.std.specs.Prelude.{ℕ, Bool, true, false, List, [], ◌∷◌, Option, Some, None}
use Rattle.std.specs.Option.{option_map}
use Rattle.rv_exec.specs.Access.{Asked}
use Rattle.elf_image.specs.Layout.{Setup}
use Rattle.wire_msg.specs.declared.messages.Msg.{Msg}
use Rattle.wire_msg.specs.declared.messages.Msg.TheVariants.{Call, Return, Start, Exit, Trapped, Reached, Limit}
use Rattle.tile_core.specs.declared.cores.TileCore.{TileCore}
use Rattle.tile_core.specs.declared.cores.Status.{Status}
use Rattle.tile_core.specs.declared.cores.Status.TheVariants.{Idle, Run, Miss, Called, Writing, AtBarrier, Probing, Trapped as TrappedTile}
use Rattle.tile_core.specs.Gathering.{Gathering}
use Rattle.tile_core.specs.Core.{idle_core}
use Rattle.event_journal.specs.State.{State}
use Rattle.node_machine.specs.declared.nodes.Node.{Node}
use Rattle.node_machine.specs.declared.nodes.Node.TheVariants.{Tile}
use Rattle.agreement_laws.specs.Seen.{to_control, from_control, to_local, from_local}
use Rattle.agreement_laws.specs.Phases.{Hart, Work, executes, gathers, on_way, limited, Going, runs, misses, writes, misses_byte, stops, probes, Phase, unborn, sent, given, on, calling, asking, checking, waits, lost, told, traps, trapping, trapped, leaving, passing, exiting, vanished, over, call_of}

-- SPOTS: what a tile has, and its four lists

-- what a tile does for its thread, without what is known of messages
pub data Stance : Type 0 where
  running : Stance
  missing : Asked → Stance
  writing : Gathering → Stance
  missing_byte : Gathering → Stance
  stopped : Work → Stance
  probing : Work → (partner replies : ℕ) → Stance
  called : Stance
  trapped_there : Stance

pub record Sitting : Type 0 where
  pub thread : ℕ
  pub hart : Hart
  pub stance : Stance

abbrev pub work_in : Bool → Gathering → Work
work_in false write = executes
work_in true write = gathers write

-- an idle tile has nobody, whatever its core still has of the last thread
abbrev pub stance_in : Status → Gathering → Option Stance
stance_in Idle write = None
stance_in Run write = Some running
stance_in (Miss (Some access)) write = Some (missing access)
stance_in (Miss None) write = Some (missing_byte write)
stance_in Called write = Some called
stance_in Writing write = Some (writing write)
stance_in (AtBarrier writing_on) write = Some (stopped (work_in writing_on write))
stance_in (Probing writing_on partner replies) write = Some (probing (work_in writing_on write) partner replies)
stance_in TrappedTile write = Some trapped_there

abbrev pub sitting_in : ℕ → TileCore → Option Sitting
sitting_in tile core =
    option_map (λ stance. record { thread = core.thread; hart = record { tile = tile; regs = core.regs; pc = core.pc }; stance = stance }) (stance_in core.status core.write)

abbrev pub core_in : Node → TileCore
core_in (Tile t) = t.core
core_in _ = idle_core

pub record Spot : Type 0 where
  pub sitting : Option Sitting
  pub to_control : List Msg
  pub from_control : List Msg
  pub to_local : List Msg
  pub from_local : List Msg

abbrev pub spot : Setup → State Node Msg → ℕ → Spot
spot w s tile = record {
  sitting = sitting_in tile (core_in (s.node tile));
  to_control = to_control w s tile;
  from_control = from_control w s tile;
  to_local = to_local w s tile;
  from_local = from_local w s tile;
}

abbrev pub vacant : Spot
vacant = record { sitting = None; to_control = []; from_control = []; to_local = []; from_local = [] }

abbrev pub seat : ℕ → Hart → Stance → Spot
seat u h stance = record vacant { sitting = Some (record { thread = u; hart = h; stance = stance }) }

abbrev pub stance_going : Going → Stance
stance_going runs = running
stance_going (misses access) = missing access
stance_going (writes write) = writing write
stance_going (misses_byte write) = missing_byte write
stance_going (stops work report) = stopped work
stance_going (probes work partner replies) = probing work partner replies

abbrev pub reports_way : ℕ → Going → List Msg
reports_way u (stops work on_way) = Reached u ∷ []
reports_way u _ = []

abbrev pub limits_way : Going → List Msg
limits_way (stops work (limited limit)) = Limit limit ∷ []
limits_way _ = []

abbrev pub spot_at : ℕ → Phase → Spot
spot_at u unborn = vacant
spot_at u (sent host entry arg time limit) = vacant
spot_at u (given tile entry arg time limit) = record vacant { from_local = Start u entry arg time limit ∷ [] }
spot_at u (on h going) = record (seat u h (stance_going going)) { to_control = reports_way u going; from_control = limits_way going }
spot_at u (calling h ask time) = record (seat u h called) { to_control = Call u time (call_of ask) ∷ [] }
spot_at u (asking h ask time) = seat u h called
spot_at u (checking h addr value) = seat u h called
spot_at u (waits h key) = seat u h called
spot_at u (lost h ask) = seat u h called
spot_at u (told h value time limit) = record (seat u h called) { from_control = Return value time limit ∷ [] }
spot_at u (traps h cause) = record (seat u h trapped_there) { to_control = Trapped u cause h.pc ∷ [] }
spot_at u (trapping h cause) = seat u h trapped_there
spot_at u (trapped h cause) = seat u h trapped_there
spot_at u (leaving tile code time) = record vacant { to_local = Exit u code time ∷ [] }
spot_at u (passing host code time) = vacant
spot_at u (exiting host code time) = vacant
spot_at u (vanished code) = vacant
spot_at u (over code joined) = vacant

abbrev pub spot_of : (ℕ → Phase) → Option ℕ → Spot
spot_of phase None = vacant
spot_of phase (Some u) = spot_at u (phase u)
