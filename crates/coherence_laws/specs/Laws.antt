-- Every line stays coherent in every run, and its value changes only by what is written.
use Rattle.std.specs.Prelude.{ℕ, ◌≡◌, true, List, [], ◌∷◌, ◌++◌, Option, Some, None}
use Rattle.sim_base.specs.declared.lines.LineData.{LineData}
use Rattle.sim_base.specs.Numbering.{node_count}
use Rattle.sim_base.specs.Settings.{IsChecked}
use Rattle.elf_image.specs.Layout.{Setup, initial_line}
use Rattle.wire_msg.specs.declared.messages.Msg.{Msg}
use Rattle.wire_msg.specs.Message.{Down, gives, down_of}
use Rattle.tile_core.specs.declared.cores.Status.{Status}
use Rattle.tile_cache.specs.Copy.{Copy, absent, shared, modified}
use Rattle.tile_node.specs.OneLine.{data_after, Happening, nothing, hit, came, step_at, waiting, delivered_at}
use Rattle.event_journal.specs.declared.events.Event.{Event}
use Rattle.event_journal.specs.declared.events.Event.TheVariants.{Step, Deliver}
use Rattle.event_journal.specs.Event.{acting_node}
use Rattle.event_journal.specs.State.{State}
use Rattle.event_journal.specs.Run.{IsRun, can_happen, happens, after}
use Rattle.node_machine.specs.declared.nodes.Node.{Node}
use Rattle.node_machine.specs.declared.nodes.Node.TheVariants.{Tile}
use Rattle.node_machine.specs.Machine.{rules, start_state}
use Rattle.coherence_laws.specs.Part.{copy_at}
use Rattle.coherence_laws.specs.Coherence.{OneWriterOrReaders, IsCoherent}

-- what an event is at a line: only what a tile does can be one
abbrev pub stepped_at : Setup → Node → ℕ → Happening
stepped_at w (Tile t) k = step_at w t k
stepped_at w _ k = nothing

abbrev pub heard_at : Setup → Node → ℕ → List Msg → ℕ → Happening
heard_at w (Tile t) from (msg ∷ rest) k = delivered_at w t from msg k
heard_at w _ from _ k = nothing

abbrev pub event_at : Setup → State Node Msg → Event → ℕ → Happening
event_at w s (Step node) k = stepped_at w (s.node node) k
event_at w s (Deliver from node) k = heard_at w (s.node node) from (s.queue from node) k

-- a line's value after that, by what its tile waited for: an access changes it, done on the copy that is there or on the
-- line that comes; nothing else does
abbrev pub value_after : Status → Happening → LineData → LineData
value_after status (hit change) v = change v
value_after status (came hold content) v = data_after (waiting status) v
value_after status _ v = v

abbrev pub value_by : Node → Happening → LineData → LineData
value_by (Tile t) h v = value_after t.core.status h v
value_by _ h v = v

abbrev pub value_then : Setup → State Node Msg → Event → ℕ → LineData → LineData
value_then w s event k v = value_by (s.node (acting_node event)) (event_at w s event k) v

-- and after all events of a list
abbrev pub value_along : Setup → State Node Msg → List Event → ℕ → LineData → LineData
value_along w s [] k v = v
value_along w s (event ∷ events) k v = value_along w (happens (rules w) s event) events k (value_then w s event k v)

-- the state after a list of events, from the start; and the value that a line has then
abbrev pub reached : Setup → List Event → State Node Msg
reached w events = after (rules w) (start_state w) events

abbrev pub line_value : Setup → List Event → ℕ → LineData
line_value w events k = value_along w (start_state w) events k (initial_line w k)

-- in every state that a run reaches each line has one writer or only readers
abbrev pub AlwaysOneWriter : Type 0
AlwaysOneWriter = (w : Setup) (events : List Event) (k : ℕ) → IsChecked w.config → IsRun (rules w) (node_count w.config) (start_state w) events
    → OneWriterOrReaders (reached w events) k

-- and it is coherent, with the value that the run gives it
abbrev pub AlwaysCoherent : Type 0
AlwaysCoherent = (w : Setup) (events : List Event) (k : ℕ) → IsChecked w.config → IsRun (rules w) (node_count w.config) (start_state w) events
    → IsCoherent w (reached w events) k (line_value w events k)

-- a line's value after one more event is what the event makes of that before it: the value is made so, by unfolding
abbrev pub ValuesChange : Type 0
ValuesChange = (w : Setup) (events : List Event) (event : Event) (k : ℕ)
    → line_value w (events ++ event ∷ []) k ≡ value_then w (reached w events) event k (line_value w events k)

-- whether an access of a line, or the reading of a write call's next byte, is done in what happens there
abbrev pub IsUse : Happening → Type 0
IsUse (hit change) = Unit {0}
IsUse (came hold content) = Unit {0}
IsUse _ = ⊥

-- the data that it works on: what the copy has, or what comes, the first that waits
abbrev pub data_in : Copy → Option LineData
data_in absent = None
data_in (shared content) = Some content
data_in (modified content) = Some content

abbrev pub data_given : Option Down → Option LineData
data_given (Some (gives want content)) = Some content
data_given _ = None

abbrev pub data_first : List Msg → Option LineData
data_first [] = None
data_first (msg ∷ rest) = data_given (down_of msg)

abbrev pub used_by : Happening → Copy → List Msg → Option LineData
used_by (hit change) copy waiting = data_in copy
used_by (came hold content) copy waiting = data_first waiting
used_by _ copy waiting = None

-- in an event, at a line
abbrev pub used_in : Setup → State Node Msg → Event → ℕ → Option LineData
used_in w s (Step node) k = used_by (stepped_at w (s.node node) k) (copy_at (s.node node) k) []
used_in w s (Deliver from node) k = used_by (heard_at w (s.node node) from (s.queue from node) k) (copy_at (s.node node) k) (s.queue from node)

-- what an access works on is the line's value
abbrev pub AccessesUseValues : Type 0
AccessesUseValues = (w : Setup) (events : List Event) (event : Event) (k : ℕ) → IsChecked w.config → IsRun (rules w) (node_count w.config) (start_state w) events
    → can_happen (rules w) (node_count w.config) (reached w events) event ≡ true → IsUse (event_at w (reached w events) event k)
    → used_in w (reached w events) event k ≡ Some (line_value w events k)
