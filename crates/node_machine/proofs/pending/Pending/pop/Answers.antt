use Rattle.std.proofs.Common.{◌≡◌, ◌<◌, length, slice_set, true, false, [], sym, ap, ◌∙◌}
use Rattle.std.proofs.lemmas.List.{length-set, get_or_read}
use Rattle.node_set.specs.NodeSet.{without}
use Rattle.node_machine.specs.Pending.{queue_from, with_queue_from, rest_of, can_act_in}
use Rattle.node_machine.proofs.PendingLemmas.{acting_inbox, acting_kept, acted_before}
use Rattle.node_machine.proofs.pending.Pending.pop.Goals as goal

pub invariant_of-self-then-not-can_act : goal.invariant_of-self-then-not-can_act
invariant_of-self-then-not-can_act c =
    let inboxes = c.self.inside.inboxes.items in
    let steps = c.self.inside.steps.items in
    let inbox = c.pop-msg.new.self in
    let acting = acting_inbox inboxes steps c.args.to inbox false c.self.invariant.each_node (sym c.if-not-can_act.true ∙ c.can_act.ensures) in
    record {
      acting = c.remove.ensures.nodes ∙ ap (without c.args.to) c.self.invariant.acting ∙ acting;
      each_node = c.self.invariant.each_node ∙ sym (length-set inboxes c.args.to inbox);
      none = c.self.invariant.none;
    }

pub invariant_of-self-else-not-can_act : goal.invariant_of-self-else-not-can_act
invariant_of-self-else-not-can_act c =
    let inboxes = c.self.inside.inboxes.items in
    let steps = c.self.inside.steps.items in
    let inbox = c.pop-msg.new.self in
    let within : c.args.to < length inboxes = c.in_ok-get_mut.ensures.item.3.0 in
    let read = get_or_read inboxes c.args.to c.in_ok-get_mut.field-0.now within c.in_ok-get_mut.ensures.value [] in
    let now : can_act_in (record { inboxes = slice_set inboxes c.args.to inbox; steps = steps }) c.args.to ≡ true = sym c.can_act.ensures ∙ c.if-not-can_act.false in
    let before = acted_before inboxes steps c.args.to c.args.from inbox within (c.pop-msg.ensures.rest ∙ ap (λ old. with_queue_from old c.args.from (rest_of (queue_from old c.args.from))) read) now in
    record {
      acting = c.self.invariant.acting ∙ acting_kept inboxes steps c.args.to inbox (before ∙ sym now);
      each_node = c.self.invariant.each_node ∙ sym (length-set inboxes c.args.to inbox);
      none = c.self.invariant.none;
    }
