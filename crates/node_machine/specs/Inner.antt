-- For the contracts of the code alone: no clause of a public function needs this.
use Rattle.std.specs.Prelude.{ℕ, ◌≡◌, ◌<◌, ◌≤◌, ◌+◌, ◌-◌, ◌++◌, Bool, true, false, List, [], length, map, slice_get, slice_set, Option, Some, None, Result, Ok, Err}
use Rattle.sim_base.specs.declared.actions.Action.{Action}
use Rattle.sim_base.specs.declared.memory.NoMemory.{NoMemory}
use Rattle.elf_image.specs.Layout.{Setup}
use Rattle.wire_msg.specs.declared.envelopes.Envelope.{Envelope}
use Rattle.wire_msg.specs.declared.messages.Msg.{Msg}
use Rattle.event_journal.specs.declared.events.Event.{Event}
use Rattle.event_journal.specs.declared.events.Event.TheVariants.{Step, Deliver}
use Rattle.event_journal.specs.Event.{acting_node}
use Rattle.node_machine.specs.declared.nodes.Node.{Node}
use Rattle.node_machine.specs.declared.nodes.Node.TheVariants.{Tile, Control, Local}
use Rattle.tile_node.specs.AtOnce.{steps_at_once}
use Rattle.node_machine.specs.Pending.{Inbox, PendingData, queue_in, with_rest, first_of, rest_of, with_messages}
use Rattle.node_machine.specs.Machine.{Act, quiet, can_step, node_step, node_delivered, IsNode}
use Rattle.node_machine.specs.Alone.{stepped}

-- each node of a list is the machine's of its number
abbrev pub AreNodes : Setup → List Node → Type 0
AreNodes w nodes = (k : ℕ) (node : Node) → slice_get nodes k ≡ Some node → IsNode w k node

-- what the acting node does in an event, and what of the messages stays
abbrev pub taken_act : Setup → Node → ℕ → Option Msg → Act
taken_act w node from None = quiet node
taken_act w node from (Some msg) = node_delivered w node from msg

abbrev pub event_act : Setup → Event → Node → List Inbox → Act
event_act w (Step id) node inboxes = node_step w node
event_act w (Deliver from id) node inboxes = taken_act w node from (first_of (queue_in inboxes from id))

abbrev pub inboxes_left : Event → List Inbox → List Inbox
inboxes_left (Step id) inboxes = inboxes
inboxes_left (Deliver from id) inboxes = with_rest from id (rest_of (queue_in inboxes from id)) inboxes

-- what the acting node leaves where the event was made. Where no message waits it isn't asked to act, spent or not
abbrev pub HasActed : Result (Option Action) NoMemory → Node → List (ℕ × Msg) → List (ℕ × Msg) → Act → Type 0
HasActed (Ok action) new before after act = (new ≡ act.node) × (after ≡ before ++ act.sent) × (action ≡ act.action)
HasActed (Err e) new before after act = Unit {0}

-- the event is made
pub record IsDone (w : Setup) (event : Event) (node : Node) (action : Option Action) (old new : List Node) (before after : PendingData) : Type 0 where
  pub nodes : new ≡ slice_set old (acting_node event) (event_act w event node before.inboxes).node
  pub inboxes : after.inboxes ≡ with_messages (acting_node event) (event_act w event node before.inboxes).sent (inboxes_left event before.inboxes)
  pub steps : after.steps ≡ map can_step new
  pub commits : action ≡ (event_act w event node before.inboxes).action

abbrev pub HasMade : Setup → Event → Result (Option Action) NoMemory → List Node → List Node → PendingData → PendingData → Type 0
HasMade w event (Ok action) old new before after =
    (node : Node) → slice_get old (acting_node event) ≡ Some node → IsDone w event node action old new before after
HasMade w event (Err e) old new before after = length new ≡ length old

-- the acting node is there, and can make the event
abbrev pub CanStep : Event → Node → Type 0
CanStep (Step id) node = can_step node ≡ true
CanStep (Deliver from id) node = Unit {0}

pub record CanBeMade (event : Event) (nodes : List Node) : Type 0 where
  pub in_range : acting_node event < length nodes
  pub can : (node : Node) → slice_get nodes (acting_node event) ≡ Some node → CanStep event node

-- a message's sender and receiver are among so many nodes
abbrev pub AreBelow : ℕ → Envelope → Type 0
AreBelow count envelope = (envelope.from < count) × (envelope.to < count)

-- steps of one node

-- a step that is made at once, after which the node can step again, or nothing changes
pub record IsMadeAtOnce (w : Setup) (old new : Node) : Type 0 where
  pub node : new ≡ (node_step w old).node
  pub quiet : (node_step w old).sent ≡ []
  pub again : can_step new ≡ true

abbrev pub NodeStepsAtOnce : Setup → Bool → Node → Node → Type 0
NodeStepsAtOnce w true old new = IsMadeAtOnce w old new
NodeStepsAtOnce w false old new = new ≡ old

-- whether a node's step is made at once: a tile's, where it needs nothing but the tile
abbrev pub node_steps_at_once : Setup → Node → Bool
node_steps_at_once w (Tile tile) = steps_at_once w tile
node_steps_at_once w (Control control) = false
node_steps_at_once w (Local local) = false

-- one step, and whether the node can go on: nothing was sent, and it can step again
pub record GoesOn (w : Setup) (old new : Node) (mail : List (ℕ × Msg)) : Type 0 where
  pub node : new ≡ (node_step w old).node
  pub sent : mail ≡ (node_step w old).sent
  pub none : mail ≡ []
  pub again : can_step new ≡ true

pub record Stops (w : Setup) (old new : Node) (mail : List (ℕ × Msg)) : Type 0 where
  pub node : new ≡ (node_step w old).node
  pub sent : mail ≡ (node_step w old).sent
  pub stops : mail ≡ [] → can_step new ≡ false

abbrev pub StepsOnce : Setup → Result Bool NoMemory → Node → Node → List (ℕ × Msg) → Type 0
StepsOnce w (Ok true) old new mail = GoesOn w old new mail
StepsOnce w (Ok false) old new mail = Stops w old new mail
StepsOnce w (Err e) old new mail = Unit {0}

-- so many steps of a node can be made one after the other, and none but the last sends anything
pub record AreSteps (w : Setup) (node : Node) (n : ℕ) : Type 0 where
  pub some : 0 < n
  pub can : (k : ℕ) → k < n → can_step (stepped w node k) ≡ true
  pub quiet : (k : ℕ) → k + 1 < n → (node_step w (stepped w node k)).sent ≡ []

-- what the last of them sends
abbrev pub last_sent : Setup → Node → ℕ → List (ℕ × Msg)
last_sent w node n = (node_step w (stepped w node (n - 1))).sent

-- so far each of so many steps could be made and sent nothing, and the node can step
pub record StepsSoFar (w : Setup) (node now : Node) (n : ℕ) : Type 0 where
  pub here : now ≡ stepped w node n
  pub can : (k : ℕ) → k < n + 1 → can_step (stepped w node k) ≡ true
  pub quiet : (k : ℕ) → k < n → (node_step w (stepped w node k)).sent ≡ []

-- so many of a node's steps, of so many at most, were made one after the other, and sent this. They are fewer only where the
-- last sends something, or the node can't step after it
pub record NodeHasStepped (w : Setup) (most n : ℕ) (old new : Node) (mail : List (ℕ × Msg)) : Type 0 where
  pub few : n ≤ most
  pub are : AreSteps w old n
  pub stops : n < most → mail ≡ [] → can_step new ≡ false
  pub node : new ≡ stepped w old n
  pub sent : mail ≡ last_sent w old n

-- what a node's steps answer
abbrev pub NodeStepsOn : Setup → ℕ → Result ℕ NoMemory → Node → Node → List (ℕ × Msg) → Type 0
NodeStepsOn w most (Ok n) old new mail = NodeHasStepped w most n old new mail
NodeStepsOn w most (Err e) old new mail = Unit {0}

-- the steps of a node among the machine's are made
pub record StepsAreDone (w : Setup) (id most n : ℕ) (node : Node) (old new : List Node) (before after : PendingData) : Type 0 where
  pub few : n ≤ most
  pub are : AreSteps w node n
  pub stops : n < most → last_sent w node n ≡ [] → can_step (stepped w node n) ≡ false
  pub nodes : new ≡ slice_set old id (stepped w node n)
  pub inboxes : after.inboxes ≡ with_messages id (last_sent w node n) before.inboxes
  pub steps : after.steps ≡ map can_step new

abbrev pub HaveStepped : Setup → ℕ → ℕ → Result ℕ NoMemory → List Node → List Node → PendingData → PendingData → Type 0
HaveStepped w id most (Ok n) old new before after =
    (node : Node) → slice_get old id ≡ Some node → StepsAreDone w id most n node old new before after
HaveStepped w id most (Err e) old new before after = length new ≡ length old

-- a node is there and can step
pub record CanStepAt (id : ℕ) (nodes : List Node) : Type 0 where
  pub in_range : id < length nodes
  pub can : (node : Node) → slice_get nodes id ≡ Some node → can_step node ≡ true
