-- Events of a machine of numbered nodes. This simulator's own.
use Rattle.std.specs.Prelude.{ℕ, ◌==◌, List, count_by}
use Rattle.event_journal.specs.declared.events.Event.{Event}
use Rattle.event_journal.specs.declared.events.Event.TheVariants.{Step, Deliver}

-- the node that acts in an event: the one that steps, or the one that takes a message
abbrev pub acting_node : Event → ℕ
acting_node (Step node) = node
acting_node (Deliver from node) = node

-- how many events of a list a node makes
abbrev pub events_of : ℕ → List Event → ℕ
events_of node events = count_by (λ event. node == acting_node event) events
