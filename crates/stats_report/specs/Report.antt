-- The text of a run, by the machine that the program keeps, and by the state that it shows.
use Rattle.std.specs.Prelude.{ℕ, ◌≡◌, List, map, sum, slice_get}
use Rattle.std.specs.List.{range_with_len}
use Rattle.sim_base.specs.declared.ends.End.{End}
use Rattle.sim_base.specs.Numbering.{node_count, control_node}
use Rattle.sim_base.specs.Saturated.{saturated}
use Rattle.elf_image.specs.Layout.{Setup}
use Rattle.wire_msg.specs.declared.messages.Msg.{Msg}
use Rattle.event_journal.specs.State.{State}
use Rattle.node_machine.specs.declared.nodes.Node.{Node}
use Rattle.node_machine.specs.Reading.{counts_of_node, output_of_node}
use Rattle.node_machine.specs.Core.{CoreData, Shows, IsCore, counts_at, output_at}
use Rattle.stats_report.specs.Text.{run_text}

-- of the machine: its control server's output, its nodes' events, its tiles' counts
abbrev pub core_text : CoreData → End → List ℕ
core_text core end = run_text
    (output_at (slice_get core.nodes core.tiles))
    end
    (saturated (sum core.made))
    (map (λ tile. counts_at (slice_get core.nodes tile)) (range_with_len 0 core.tiles))

-- of a state
abbrev pub state_text : Setup → State Node Msg → End → List ℕ
state_text w s end = run_text
    (output_of_node (s.node (control_node w.config)))
    end
    (saturated (sum (map s.made (range_with_len 0 (node_count w.config)))))
    (map (λ tile. counts_of_node (s.node tile)) (range_with_len 0 w.config.tiles))

-- both are the same, where the machine shows the state
abbrev pub TextIsOfState : Type 0
TextIsOfState = (w : Setup) (core : CoreData) (s : State Node Msg) (end : End)
    → IsCore w core → Shows core s → core_text core end ≡ state_text w s end
