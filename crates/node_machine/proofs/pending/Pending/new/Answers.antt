use Rattle.std.proofs.Common.{◌≡◌, [], false, length, replicate, sym, ap, ◌∙◌}
use Rattle.std.proofs.lemmas.List.{length-replicate}
use Rattle.node_machine.specs.Pending.{acting_in}
use Rattle.node_machine.proofs.PendingLemmas.{acting_none}
use Rattle.node_machine.proofs.pending.Pending.new.Goals as goal

pub invariant_of-result : goal.invariant_of-result
invariant_of-result c =
    let n = c.loop.counter in
    let inboxes = c.loop.invariant.0 in
    let steps = c.loop.invariant.1 in
    let many_inboxes : length c.loop.inboxes.items ≡ n = ap length inboxes ∙ length-replicate n (replicate c.args.count []) in
    let many_steps : length c.loop.steps.items ≡ n = ap length steps ∙ length-replicate n false in
    record {
      acting = c.new-acting.ensures ∙ sym (acting_none n c.args.count) ∙ ap (λ each. acting_in (record { inboxes = each; steps = replicate n false })) (sym inboxes) ∙ ap (λ each. acting_in (record { inboxes = c.loop.inboxes.items; steps = each })) (sym steps);
      each_node = many_steps ∙ sym many_inboxes;
      none = c.new-no_senders.ensures;
    }
