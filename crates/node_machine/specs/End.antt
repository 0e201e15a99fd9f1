-- How a state has ended: as the control server says, or else by the budget of events. This simulator's own.
use Rattle.std.specs.Prelude.{Bool, true, false, nat_le, Option, Some, None}
use Rattle.std.specs.List.{list_any, range_with_len}
use Rattle.sim_base.specs.declared.ends.End.{End}
use Rattle.sim_base.specs.declared.ends.End.TheVariants.{Budget}
use Rattle.sim_base.specs.Numbering.{node_count, control_node}
use Rattle.elf_image.specs.Layout.{Setup}
use Rattle.wire_msg.specs.declared.messages.Msg.{Msg}
use Rattle.event_journal.specs.State.{State}
use Rattle.node_machine.specs.declared.nodes.Node.{Node}
use Rattle.node_machine.specs.Reading.{ended_of_node}

-- whether some node has made as many events as each may
abbrev pub is_used_up : Setup → State Node Msg → Bool
is_used_up w s = list_any (λ node. nat_le w.config.events (s.made node)) (range_with_len 0 (node_count w.config))

-- the control server's end, where it has one; else the budget is the end, where it is used up
abbrev pub budget_end : Bool → Option End
budget_end true = Some Budget
budget_end false = None

abbrev pub end_by : Option End → Bool → Option End
end_by (Some end) used_up = Some end
end_by None used_up = budget_end used_up

abbrev pub end_of : Setup → State Node Msg → Option End
end_of w s = end_by (ended_of_node (s.node (control_node w.config))) (is_used_up w s)
