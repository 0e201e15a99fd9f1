-- What a run commits: the actions of the flat machine, in the order of the events. An event commits one at most.
use Rattle.std.specs.Prelude.{ℕ, List, [], ◌∷◌, Option, Some, None}
use Rattle.sim_base.specs.declared.actions.Action.{Action}
use Rattle.elf_image.specs.Layout.{Setup}
use Rattle.wire_msg.specs.declared.messages.Msg.{Msg}
use Rattle.event_journal.specs.declared.events.Event.{Event}
use Rattle.event_journal.specs.declared.events.Event.TheVariants.{Step, Deliver}
use Rattle.event_journal.specs.State.{State}
use Rattle.event_journal.specs.Run.{happens}
use Rattle.node_machine.specs.declared.nodes.Node.{Node}
use Rattle.node_machine.specs.Machine.{node_step, node_delivered, rules}

-- a delivery takes the first message, where one waits
abbrev pub delivery_action : Setup → Node → ℕ → List Msg → Option Action
delivery_action w node from [] = None
delivery_action w node from (msg ∷ rest) = (node_delivered w node from msg).action

-- the action that an event commits, if it does
abbrev pub event_action : Setup → State Node Msg → Event → Option Action
event_action w s (Step node) = (node_step w (s.node node)).action
event_action w s (Deliver from node) = delivery_action w (s.node node) from (s.queue from node)

abbrev pub committed : Option Action → List Action → List Action
committed None later = later
committed (Some action) later = action ∷ later

-- the actions that a list of events commits
abbrev pub commits : Setup → State Node Msg → List Event → List Action
commits w s [] = []
commits w s (event ∷ events) = committed (event_action w s event) (commits w (happens (rules w) s event) events)
