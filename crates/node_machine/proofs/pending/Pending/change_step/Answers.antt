use Rattle.std.proofs.Common.{length, ap, ◌∙◌}
use Rattle.std.specs.Prelude.{if◌then◌else◌}
use Rattle.std.proofs.lemmas.List.{length-set}
use Rattle.node_set.specs.NodeSet.{with_node, without}
use Rattle.node_machine.proofs.PendingLemmas.{acting_step}
use Rattle.node_machine.proofs.pending.Pending.change_step.Goals as goal

pub invariant_of-self : goal.invariant_of-self
invariant_of-self c =
    let inboxes = c.self.inside.inboxes.items in
    let steps = c.self.inside.steps.items in
    let acting = acting_step inboxes steps c.note_step.new.steps.items c.args.node c.args.can c.can_act-acts.result c.self.invariant.each_node c.note_step.ensures c.can_act-acts.ensures in
    record {
      acting = c.put.ensures ∙ ap (λ nodes. if c.can_act-acts.result then with_node c.args.node nodes else without c.args.node nodes) c.self.invariant.acting ∙ acting;
      each_node = ap length c.note_step.ensures ∙ length-set steps c.args.node c.args.can ∙ c.self.invariant.each_node;
      none = c.self.invariant.none;
    }
