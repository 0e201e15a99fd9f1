use Rattle.std.proofs.Common.{◌≡◌, ◌<◌, ◌++◌, ◌∷◌, [], length, true, sym, ap, ◌∙◌, arith}
use Rattle.std.proofs.lemmas.List.{length-set, get_or_read}
use Rattle.node_set.specs.NodeSet.{with_node}
use Rattle.node_machine.specs.Pending.{inbox_of, queue_from, with_queue_from}
use Rattle.node_machine.proofs.PendingLemmas.{acting_inbox, acts_pushed, node_within}
use Rattle.node_machine.proofs.pending.Pending.push.Goals as goal

pub invariant_of-self-2 : goal.invariant_of-self-2
invariant_of-self-2 c =
    let inboxes = c.self.inside.inboxes.items in
    let steps = c.self.inside.steps.items in
    let inbox = c.push.new.self in
    let sender : c.args.from < length (inbox_of inboxes c.args.to) = omega (arith, c.requires, ap (λ pending. length (inbox_of pending.inboxes c.args.to)) c.self.view_is) in
    let within = node_within inboxes c.args.to c.args.from sender in
    let read : c.index_mut.result.now ≡ inbox_of inboxes c.args.to = get_or_read inboxes c.args.to c.index_mut.result.now within c.index_mut.ensures.value [] in
    let acts = acts_pushed inboxes steps c.args.to c.args.from c.args.msg inbox within sender (c.in_ok-push.ensures.ok ∙ ap (λ old. with_queue_from old c.args.from (queue_from old c.args.from ++ c.args.msg ∷ [])) read) in
    let acting = acting_inbox inboxes steps c.args.to inbox true c.self.invariant.each_node acts in
    record {
      acting = c.insert.ensures.nodes ∙ ap (with_node c.args.to) c.self.invariant.acting ∙ acting;
      each_node = c.self.invariant.each_node ∙ sym (length-set inboxes c.args.to inbox);
      none = c.self.invariant.none;
    }
