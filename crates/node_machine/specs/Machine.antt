-- The simulated machine: its tiles, its control server and the local servers of its hosts, as nodes that send one another
-- messages. After Graphite (HPCA 2010).
use Rattle.std.specs.Prelude.{ℕ, ◌≡◌, ◌<◌, ◌==◌, Bool, true, false, List, [], ◌++◌, nat_lt, if◌then◌else◌, Option, None, Result, Ok, Err}
use Rattle.sim_base.specs.declared.actions.Action.{Action}
use Rattle.sim_base.specs.declared.memory.NoMemory.{NoMemory}
use Rattle.sim_base.specs.Numbering.{control_node, local_node, server_host}
use Rattle.elf_image.specs.Layout.{Setup}
use Rattle.wire_msg.specs.declared.messages.Msg.{Msg}
use Rattle.tile_node.specs.Tile.{Act as TileAct, start_tile}
use Rattle.tile_node.specs.Step.{can_step as tile_can_step, tile_step}
use Rattle.tile_node.specs.Deliver.{tile_delivered}
use Rattle.tile_node.specs.Answers.{IsOf}
use Rattle.control_server.specs.Control.{Act as ControlAct, start_control, IsInOrder}
use Rattle.control_server.specs.Serve.{can_step as control_can_step, control_step}
use Rattle.control_server.specs.Deliver.{control_delivered}
use Rattle.local_server.specs.Local.{LocalServer, Made, start_local, delivered}
use Rattle.event_journal.specs.Rules.{Change, Rules}
use Rattle.event_journal.specs.State.{State, start}
use Rattle.node_machine.specs.declared.nodes.Node.{Node}
use Rattle.node_machine.specs.declared.nodes.Node.TheVariants.{Tile, Control, Local}

-- what a node does in an event: the node afterwards; what it sends, with the receivers; and the action of the flat
-- machine that it commits, if it does
pub record Act : Type 0 where
  pub node : Node
  pub sent : List (ℕ × Msg)
  pub action : Option Action

abbrev pub of_tile : TileAct → Act
of_tile act = record { node = Tile act.tile; sent = act.mail; action = act.action }

abbrev pub of_control : ControlAct → Act
of_control act = record { node = Control act.control; sent = act.mail; action = act.action }

abbrev pub of_local : LocalServer → Made → Act
of_local local made = record { node = Local (record local { idle = made.idle }); sent = made.mail; action = None }

abbrev pub quiet : Node → Act
quiet node = record { node = node; sent = []; action = None }

-- whether a node can make a step of its own: a local server never does
abbrev pub can_step : Node → Bool
can_step (Tile tile) = tile_can_step tile
can_step (Control control) = control_can_step control
can_step (Local local) = false

-- a node's step
abbrev pub node_step : Setup → Node → Act
node_step w (Tile tile) = of_tile (tile_step w tile)
node_step w (Control control) = of_control (control_step w control)
node_step w (Local local) = quiet (Local local)

-- a message that comes to a node
abbrev pub node_delivered : Setup → Node → ℕ → Msg → Act
node_delivered w (Tile tile) from msg = of_tile (tile_delivered w tile from msg)
node_delivered w (Control control) from msg = of_control (control_delivered w control from msg)
node_delivered w (Local local) from msg = of_local local (delivered w.config local.host local.idle from msg)

-- what an act changes
abbrev pub change_of : Act → Change Node Msg
change_of act = record { node = act.node; sent = act.sent }

-- the machine: each node may make as many events as the settings allow
abbrev pub rules : Setup → Rules Node Msg
rules w = record {
  room = w.config.events;
  can_step = can_step;
  step = λ id node. change_of (node_step w node);
  deliver = λ id node from msg. change_of (node_delivered w node from msg);
}

-- what a step or a delivery answers: Ok where the node wasn't spent, with the node and the action of the act, and what it
-- sends after what was there; or memory ran out, and the node is spent
abbrev pub is_spent : Node → Bool
is_spent (Tile tile) = tile.spent
is_spent (Control control) = control.spent
is_spent (Local local) = local.spent

abbrev pub Acts : Result (Option Action) NoMemory → Node → Node → List (ℕ × Msg) → List (ℕ × Msg) → Act → Type 0
Acts (Ok action) old new before after act = (is_spent old ≡ false) × (new ≡ act.node) × (after ≡ before ++ act.sent) × (action ≡ act.action)
Acts (Err e) old new before after act = is_spent new ≡ true

-- a node before the program runs: the tiles, the control server, the local servers of the hosts
abbrev pub start_server : Setup → ℕ → Node
start_server w id =
    if id == control_node w.config then Control (start_control w) else Local (start_local w.config (server_host w.config id))

abbrev pub start_node : Setup → ℕ → Node
start_node w id = if nat_lt id w.config.tiles then Tile (start_tile w id) else start_server w id

-- the state before the program runs: no message waits, and no event was made
abbrev pub start_state : Setup → State Node Msg
start_state w = start (start_node w)

-- a node fits the machine: it is the one of its number, and is kept as its kind is
abbrev pub IsNode : Setup → ℕ → Node → Type 0
IsNode w id (Tile tile) = (tile.number ≡ id) × IsOf w tile
IsNode w id (Control control) = (id ≡ control_node w.config) × IsInOrder w control
IsNode w id (Local local) = (id ≡ local_node w.config local.host) × (local.host < w.config.hosts)
