-- Why a run ended by a trap: at one of its events a thread's instruction trapped so.
use Rattle.std.specs.Prelude.{ℕ, ◌≡◌, ◌⊎◌, List, [], ◌∷◌, Some}
use Rattle.sim_base.specs.declared.actions.Action.TheVariants.{Exec}
use Rattle.sim_base.specs.declared.ends.Cause.{Cause}
use Rattle.sim_base.specs.declared.ends.End.TheVariants.{Trap as TrapEnd}
use Rattle.sim_base.specs.Numbering.{node_count}
use Rattle.elf_image.specs.Layout.{Setup}
use Rattle.wire_msg.specs.declared.messages.Msg.{Msg}
use Rattle.tile_core.specs.declared.plans.Plan.TheVariants.{Trap}
use Rattle.tile_core.specs.Plan.{plan_of}
use Rattle.tile_node.specs.Tile.{Tile as TileData}
use Rattle.event_journal.specs.declared.events.Event.{Event}
use Rattle.event_journal.specs.declared.events.Event.TheVariants.{Step, Deliver}
use Rattle.event_journal.specs.State.{State}
use Rattle.event_journal.specs.Run.{IsRun, happens, after}
use Rattle.node_machine.specs.declared.nodes.Node.{Node}
use Rattle.node_machine.specs.declared.nodes.Node.TheVariants.{Tile}
use Rattle.node_machine.specs.Machine.{rules, start_state}
use Rattle.node_machine.specs.Commits.{event_action}
use Rattle.node_machine.specs.End.{end_of}

-- a step by which a thread's instruction at this pc traps so: the tile that steps runs the thread there, what comes next is
-- that trap, and the step commits it
pub record IsTrappingStep (w : Setup) (s : State Node Msg) (node thread : ℕ) (cause : Cause) (pc : ℕ) : Type 0 where
  pub tile : TileData
  pub here : s.node node ≡ Tile tile
  pub thread_runs : tile.core.thread ≡ thread
  pub pc_is : tile.core.pc ≡ pc
  pub traps : plan_of w tile.core ≡ Trap cause
  pub commits : event_action w s (Step node) ≡ Some (Exec thread)

abbrev pub IsTrapping : Setup → State Node Msg → Event → ℕ → Cause → ℕ → Type 0
IsTrapping w s (Step node) thread cause pc = IsTrappingStep w s node thread cause pc
IsTrapping w s (Deliver from node) thread cause pc = ⊥

-- some event of a list is one, in the state before it
abbrev pub HasTrapped : Setup → State Node Msg → List Event → ℕ → Cause → ℕ → Type 0
HasTrapped w s [] thread cause pc = ⊥
HasTrapped w s (event ∷ events) thread cause pc =
    IsTrapping w s event thread cause pc ⊎ HasTrapped w (happens (rules w) s event) events thread cause pc

-- a run that ended by a trap has such an event
abbrev pub TrapHasCause : Type 0
TrapHasCause = (w : Setup) (events : List Event) (thread : ℕ) (cause : Cause) (pc : ℕ)
    → IsRun (rules w) (node_count w.config) (start_state w) events
    → end_of w (after (rules w) (start_state w) events) ≡ Some (TrapEnd thread cause pc)
    → HasTrapped w (start_state w) events thread cause pc
