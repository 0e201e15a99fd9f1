-- A line of which nothing is on its way, and who waits for lines.
use Rattle.std.specs.Prelude.{ℕ, ◌≡◌, ◌<◌, Bool, true, false, List, [], is_some, None}
use Rattle.sim_base.specs.Numbering.{node_count}
use Rattle.sim_base.specs.Settings.{IsChecked}
use Rattle.elf_image.specs.Layout.{Setup}
use Rattle.wire_msg.specs.declared.messages.Msg.{Msg}
use Rattle.tile_core.specs.declared.cores.Status.{Status}
use Rattle.tile_core.specs.declared.cores.Status.TheVariants.{Miss}
use Rattle.event_journal.specs.declared.events.Event.{Event}
use Rattle.event_journal.specs.State.{State}
use Rattle.event_journal.specs.Run.{IsRun}
use Rattle.node_machine.specs.declared.nodes.Node.{Node}
use Rattle.node_machine.specs.declared.nodes.Node.TheVariants.{Tile, Control, Local}
use Rattle.node_machine.specs.Machine.{rules, start_state}
use Rattle.coherence_laws.specs.Part.{want_at, part_of}
use Rattle.coherence_laws.specs.Laws.{reached}

-- nothing of a line is on its way, to its home or from it, at any of the machine's nodes
abbrev pub IsStill : Setup → State Node Msg → ℕ → Type 0
IsStill w s k = (node : ℕ) → node < node_count w.config → ((part_of w s k node).up ≡ []) × ((part_of w s k node).down ≡ [])

-- then nobody waits for it
abbrev pub StillLinesAreServed : Type 0
StillLinesAreServed = (w : Setup) (events : List Event) (k : ℕ) → IsChecked w.config → IsRun (rules w) (node_count w.config) (start_state w) events
    → IsStill w (reached w events) k → (node : ℕ) → want_at ((reached w events).node node) k ≡ None

-- whether a node waits for a line: a tile that misses one, or a control server that checks a word
abbrev pub is_missing : Status → Bool
is_missing (Miss access) = true
is_missing _ = false

abbrev pub waits_for_line : Node → Bool
waits_for_line (Tile t) = is_missing t.core.status
waits_for_line (Control c) = is_some c.checking
waits_for_line (Local l) = false

-- where no message waits among the machine's nodes, no node waits for a line
abbrev pub NoneWaitsInSilence : Type 0
NoneWaitsInSilence = (w : Setup) (events : List Event) → IsChecked w.config → IsRun (rules w) (node_count w.config) (start_state w) events
    → ((from to : ℕ) → from < node_count w.config → to < node_count w.config → (reached w events).queue from to ≡ []) → (node : ℕ) → waits_for_line ((reached w events).node node) ≡ false
