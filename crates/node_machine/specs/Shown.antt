-- What is read of the machine that the program keeps is read of the state that it shows.
use Rattle.std.specs.Prelude.{ℕ, ◌≡◌, ◌<◌, map, slice_get}
use Rattle.std.specs.List.{range_with_len}
use Rattle.sim_base.specs.Numbering.{node_count, control_node}
use Rattle.elf_image.specs.Layout.{Setup}
use Rattle.wire_msg.specs.declared.messages.Msg.{Msg}
use Rattle.event_journal.specs.declared.events.Event.{Event}
use Rattle.event_journal.specs.State.{State}
use Rattle.event_journal.specs.Run.{can_happen}
use Rattle.event_journal.specs.Choice.{acting_nodes, senders_to}
use Rattle.node_machine.specs.declared.nodes.Node.{Node}
use Rattle.node_machine.specs.Machine.{rules, start_state}
use Rattle.node_machine.specs.Reading.{counts_of_node, output_of_node}
use Rattle.node_machine.specs.End.{end_of}
use Rattle.node_machine.specs.Core.{CoreData, Shows, IsCore, start_core, is_enabled_in, acting_in, senders_in, end_in, counts_at, output_at}

-- of a machine's core and a state that it shows: whether an event is enabled, which nodes can act, from which senders a
-- message waits, how it has ended, what the tiles have counted, the output, and how many events each node made
pub record ReadsAsShown (w : Setup) (core : CoreData) (s : State Node Msg) : Type 0 where
  pub enabled : (event : Event) → is_enabled_in core event ≡ can_happen (rules w) (node_count w.config) s event
  pub acting : acting_in core ≡ acting_nodes (rules w) (node_count w.config) s
  pub senders : (node : ℕ) → node < node_count w.config → senders_in core node ≡ senders_to (node_count w.config) s node
  pub end : end_in core ≡ end_of w s
  pub counts : (tile : ℕ) → tile < node_count w.config → counts_at (slice_get core.nodes tile) ≡ counts_of_node (s.node tile)
  pub output : output_at (slice_get core.nodes core.tiles) ≡ output_of_node (s.node (control_node w.config))
  pub count : core.made ≡ map s.made (range_with_len 0 (node_count w.config))

abbrev pub ShownIsRead : Type 0
ShownIsRead = (w : Setup) (core : CoreData) (s : State Node Msg) → IsCore w core → Shows core s → ReadsAsShown w core s

-- every core of a machine shows some state
abbrev pub SomeIsShown : Type 0
SomeIsShown = (w : Setup) (core : CoreData) → IsCore w core → (s : State Node Msg) × Shows core s

-- the core before the program runs shows the state then
abbrev pub StartIsShown : Type 0
StartIsShown = (w : Setup) → Shows (start_core w) (start_state w)
