-- The whole machine as the program keeps it, and the state that it shows. This simulator's own.
use Rattle.std.specs.Prelude.{ℕ, ◌≡◌, ◌≤◌, ◌<◌, ◌&&◌, not, Bool, true, false, List, [], ◌∷◌, nat_lt, nat_le, length, map, replicate, All, slice_get, Option, Some, None, Result, Ok, Err}
use Rattle.std.specs.List.{list_any, range_with_len}
use Rattle.sim_base.specs.declared.actions.Action.{Action}
use Rattle.sim_base.specs.declared.ends.End.{End}
use Rattle.sim_base.specs.declared.memory.NoMemory.{NoMemory as MemoryFault}
use Rattle.sim_base.specs.Numbering.{node_count}
use Rattle.elf_image.specs.Layout.{Setup}
use Rattle.wire_msg.specs.declared.envelopes.Envelope.{Envelope}
use Rattle.wire_msg.specs.declared.messages.Msg.{Msg}
use Rattle.tile_cache.specs.declared.ways.Hold.{Hold}
use Rattle.tile_node.specs.declared.tile.TileCounts.{TileCounts}
use Rattle.event_journal.specs.declared.events.Event.{Event}
use Rattle.event_journal.specs.declared.events.Event.TheVariants.{Step, Deliver}
use Rattle.event_journal.specs.Event.{acting_node}
use Rattle.event_journal.specs.State.{State, is_empty}
use Rattle.event_journal.specs.Run.{happens, can_happen}
use Rattle.node_machine.specs.declared.nodes.Node.{Node}
use Rattle.node_machine.specs.declared.cores.ApplyFault.{ApplyFault}
use Rattle.node_machine.specs.declared.cores.ApplyFault.TheVariants.{NotEnabled, NoMemory}
use Rattle.node_machine.specs.Pending.{Inbox, inbox_of, queue_in, nothing_pending, with_message, acting_in as acting_by, senders_in as senders_by, AreInboxes}
use Rattle.node_machine.specs.Machine.{can_step, start_node, rules, IsNode}
use Rattle.node_machine.specs.Commits.{event_action}
use Rattle.node_machine.specs.Reading.{counts_of_node, none_counted, hold_of_node, output_of_node, ended_of_node}
use Rattle.node_machine.specs.End.{end_by}

-- how many tiles there are; how many events each node may make; the nodes; the messages that wait for each; how many
-- events each made; and whether it is spent, as it is once memory ran out in a call
pub record CoreData : Type 0 where
  pub tiles : ℕ
  pub room : ℕ
  pub nodes : List Node
  pub inboxes : List Inbox
  pub made : List ℕ
  pub spent : Bool

-- put together from nodes, waiting messages, each with its sender and its receiver, and counts of events: each message
-- joins the end of its list, in order
abbrev pub with_envelopes : List Envelope → List Inbox → List Inbox
with_envelopes [] inboxes = inboxes
with_envelopes (envelope ∷ envelopes) inboxes =
    with_envelopes envelopes (with_message envelope.from envelope.to envelope.msg inboxes)

-- a message's sender and receiver are nodes of the machine
abbrev pub AreIn : Setup → Envelope → Type 0
AreIn w envelope = (envelope.from < node_count w.config) × (envelope.to < node_count w.config)

abbrev pub core_of : Setup → List Node → List Envelope → List ℕ → CoreData
core_of w nodes waiting made = record {
  tiles = w.config.tiles;
  room = w.config.events;
  nodes = nodes;
  inboxes = with_envelopes waiting (nothing_pending (length nodes)).inboxes;
  made = made;
  spent = false;
}

-- before the program runs
abbrev pub start_nodes : Setup → List Node
start_nodes w = map (start_node w) (range_with_len 0 (node_count w.config))

abbrev pub start_core : Setup → CoreData
start_core w = core_of w (start_nodes w) [] (replicate (node_count w.config) 0)

-- the nodes and the counts are those of a machine: one for each of its nodes, each node the one of its number, and no
-- count above what a node may make
pub record AreParts (w : Setup) (nodes : List Node) (made : List ℕ) : Type 0 where
  pub each_node : length nodes ≡ node_count w.config
  pub fits : (k : ℕ) (node : Node) → slice_get nodes k ≡ Some node → IsNode w k node
  pub each_count : length made ≡ node_count w.config
  pub room : All (λ n. n ≤ w.config.events) made

-- it shows a state: at the numbers of its nodes, the nodes, the messages and the counts are the state's
pub record Shows (core : CoreData) (s : State Node Msg) : Type 0 where
  pub node : (k : ℕ) → k < length core.nodes → slice_get core.nodes k ≡ Some (s.node k)
  pub queue : (from to : ℕ) → from < length core.nodes → to < length core.nodes → queue_in core.inboxes from to ≡ s.queue from to
  pub made : (k : ℕ) → k < length core.nodes → slice_get core.made k ≡ Some (s.made k)

-- it is one of a machine: it has the machine's nodes, an inbox and a count for each
pub record IsCore (w : Setup) (core : CoreData) : Type 0 where
  pub tiles : core.tiles ≡ w.config.tiles
  pub room : core.room ≡ w.config.events
  pub nodes : length core.nodes ≡ node_count w.config
  pub fits : (k : ℕ) (node : Node) → slice_get core.nodes k ≡ Some node → IsNode w k node
  pub inboxes : AreInboxes (node_count w.config) core.inboxes
  pub made : length core.made ≡ node_count w.config

-- whether it can make an event, as far as its lists say
abbrev pub steps_at : Option Node → Bool
steps_at None = false
steps_at (Some node) = can_step node

abbrev pub has_room : ℕ → Option ℕ → Bool
has_room room None = false
has_room room (Some made) = nat_lt made room

abbrev pub can_make_in : CoreData → Event → Bool
can_make_in core (Step node) = steps_at (slice_get core.nodes node)
can_make_in core (Deliver from node) = not (is_empty (queue_in core.inboxes from node))

abbrev pub is_enabled_in : CoreData → Event → Bool
is_enabled_in core event = has_room core.room (slice_get core.made (acting_node event)) && can_make_in core event

-- an event was made: where it was enabled, the state is the one after it, and the action is the one that it commits
pub record IsMade (w : Setup) (event : Event) (action : Option Action) (old new : CoreData) (s : State Node Msg) : Type 0 where
  pub enabled : can_happen (rules w) (node_count w.config) s event ≡ true
  pub shows : Shows new (happens (rules w) s event)
  pub commits : action ≡ event_action w s event

-- what making an event answers: of each state that the core showed, Ok says what was made of it; NotEnabled, that the
-- event isn't enabled in it, and then nothing changed. After want of memory the core is spent
abbrev pub Applies : Setup → Event → Result (Option Action) ApplyFault → CoreData → CoreData → Type 0
Applies w event (Ok action) old new = (old.spent ≡ false) × (new.spent ≡ false) × ((s : State Node Msg) → Shows old s → IsMade w event action old new s)
Applies w event (Err NotEnabled) old new =
    (old.spent ≡ false) × (new ≡ old) × ((s : State Node Msg) → Shows old s → can_happen (rules w) (node_count w.config) s event ≡ false)
Applies w event (Err NoMemory) old new = new.spent ≡ true

-- what making an event answers that is enabled
abbrev pub AppliesEnabled : Setup → Event → Result (Option Action) MemoryFault → CoreData → CoreData → Type 0
AppliesEnabled w event (Ok action) old new = (new.spent ≡ false) × ((s : State Node Msg) → Shows old s → IsMade w event action old new s)
AppliesEnabled w event (Err e) old new = new.spent ≡ true

-- what is read of it, at a number that has no node as of a node of another kind
abbrev pub counts_at : Option Node → TileCounts
counts_at None = none_counted
counts_at (Some node) = counts_of_node node

abbrev pub hold_at : Option Node → ℕ → Option Hold
hold_at None line = None
hold_at (Some node) line = hold_of_node node line

abbrev pub output_at : Option Node → List ℕ
output_at None = []
output_at (Some node) = output_of_node node

abbrev pub ended_in : Option Node → Option End
ended_in None = None
ended_in (Some node) = ended_of_node node

abbrev pub is_full : ℕ → List ℕ → Bool
is_full room made = list_any (λ n. nat_le room n) made

-- the nodes that can act, and the senders from whom a message waits for a node, ascending
abbrev pub acting_in : CoreData → List ℕ
acting_in core = acting_by (record { inboxes = core.inboxes; steps = map can_step core.nodes })

abbrev pub senders_in : CoreData → ℕ → List ℕ
senders_in core node = senders_by (inbox_of core.inboxes node)

-- how it has ended: as the control server says, or else by the budget of events
abbrev pub end_in : CoreData → Option End
end_in core = end_by (ended_in (slice_get core.nodes core.tiles)) (is_full core.room core.made)
