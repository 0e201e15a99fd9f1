-- Parts of the law of one memory: what is kept agrees, it is so at the start, and what each kind of event keeps of it. This
-- simulator's own.
use Rattle.std.specs.Prelude.{ℕ, ◌≡◌, List, [], ◌∷◌, ◌++◌, Some, None}
use Rattle.sim_base.specs.Settings.{IsChecked}
use Rattle.elf_image.specs.Layout.{Setup, initial_line}
use Rattle.wire_msg.specs.declared.messages.Msg.{Msg}
use Rattle.wire_msg.specs.Message.{line_of}
use Rattle.flat_machine.specs.State.{State as Flat, start}
use Rattle.tile_node.specs.Tile.{Tile as TileData}
use Rattle.event_journal.specs.declared.events.Event.{Event}
use Rattle.event_journal.specs.declared.events.Event.TheVariants.{Step, Deliver}
use Rattle.node_machine.specs.declared.nodes.Node.TheVariants.{Tile}
use Rattle.node_machine.specs.Machine.{start_state}
use Rattle.node_machine.specs.Commits.{event_action}
use Rattle.coherence_laws.specs.Laws.{reached, line_value}
use Rattle.agreement_laws.specs.Agreement.{Agrees}
use Rattle.agreement_laws.specs.Whole.{Whole, acted}
use Rattle.agreement_laws.specs.Laws.{IsRunOf}

-- the whole is kept of a flat state by the state that a run reaches
abbrev pub IsWhole : Setup → List Event → Flat → Type 0
IsWhole w events f = Whole w (reached w events) (line_value w events) f

-- before the program runs it is
abbrev pub StartIsWhole : Type 0
StartIsWhole = (w : Setup) → IsChecked w.config → Whole w (start_state w) (initial_line w) (start w)

-- where it is, both states agree
abbrev pub WholeAgrees : Type 0
WholeAgrees = (w : Setup) (events : List Event) (f : Flat) → IsChecked w.config → IsRunOf w events → IsWhole w events f → Agrees w (reached w events) (line_value w events) f

-- one event more: what it commits is legal on the flat machine, and the whole is kept of the state that this gives
abbrev pub Follows : Setup → List Event → Event → Flat → Type 0
Follows w events event f = (g : Flat) × (acted w f (event_action w (reached w events) event) ≡ Some g) × IsWhole w (events ++ event ∷ []) g

-- so it is with each step of a tile
abbrev pub TileStepsFollow : Type 0
TileStepsFollow = (w : Setup) (events : List Event) (tile : ℕ) (t : TileData) (f : Flat) → IsChecked w.config → IsRunOf w (events ++ Step tile ∷ []) → (reached w events).node tile ≡ Tile t
    → IsWhole w events f → Follows w events (Step tile) f

-- and with each delivery to a tile of a message that is about no line
abbrev pub TileDeliveriesFollow : Type 0
TileDeliveriesFollow = (w : Setup) (events : List Event) (from tile : ℕ) (t : TileData) (msg : Msg) (rest : List Msg) (f : Flat) → IsChecked w.config → IsRunOf w (events ++ Deliver from tile ∷ [])
    → (reached w events).node tile ≡ Tile t → (reached w events).queue from tile ≡ msg ∷ rest → line_of msg ≡ None → IsWhole w events f → Follows w events (Deliver from tile) f
