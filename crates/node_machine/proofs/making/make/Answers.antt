-- The acting node has acted, is noted, and its messages have joined their lists.
use Rattle.std.proofs.Common.{◌≡◌, ◌<◌, Some, length, refl, subst, rules}
use Rattle.std.specs.Prelude.{slice_get, slice_set}
use Rattle.std.proofs.lemmas.Option.{slice_get_read}
use Rattle.event_journal.specs.Event.{acting_node}
use Rattle.node_machine.specs.Pending.{with_messages}
use Rattle.node_machine.specs.Machine.{can_step, IsNode}
use Rattle.node_machine.specs.Inner.{event_act, inboxes_left}
use Rattle.node_machine.proofs.MakeLemmas.{nodes_set, done}
use Rattle.node_machine.proofs.making.make.Goals as goal

pub returns-clause-made : goal.returns-clause-made
returns-clause-made c =
    let read : slice_get c.args.nodes.now.items c.node-id.result ≡ Some c.in-Some.node.now =
    slice_get_read c.args.nodes.now.items (length c.args.nodes.now.items) c.node-id.result c.in-Some.node.now refl c.in-Some.ensures.item.3.0 c.in-Some.ensures.value in
    let at : slice_get c.args.nodes.now.items (acting_node c.args.event) ≡ Some c.in-Some.node.now =
    subst (λ id. slice_get c.args.nodes.now.items id ≡ Some c.in-Some.node.now) c.node-id.ensures read in
    let set : slice_set c.args.nodes.now.items c.node-id.result c.act.new.node ≡ slice_set c.args.nodes.now.items (acting_node c.args.event) c.act.new.node = search rules in
    let node_is : c.act.new.node ≡ (event_act c.args.world.now c.args.event c.in-Some.node.now c.args.pending.now.inboxes).node = search rules in
    let sent_is : c.act.new.out.items ≡ (event_act c.args.world.now c.args.event c.in-Some.node.now c.args.pending.now.inboxes).sent = search rules in
    let action_is : c.in_ok-action.action ≡ (event_act c.args.world.now c.args.event c.in-Some.node.now c.args.pending.now.inboxes).action = search rules in
    let inboxes : c.post.new.pending.inboxes ≡ with_messages (acting_node c.args.event) c.act.new.out.items (inboxes_left c.args.event c.args.pending.now.inboxes) = search rules in
    let noted : c.post.new.pending.steps ≡ slice_set c.args.pending.now.steps (acting_node c.args.event) (can_step c.act.new.node) = search rules in
    done c.args.world.now c.args.event c.in-Some.node.now c.act.new.node c.in_ok-action.action c.args.nodes.now.items _ c.args.pending.now c.post.new.pending c.act.new.out.items
    at set node_is sent_is action_is c.requires.steps inboxes noted

pub returns-clause-nodes : goal.returns-clause-nodes
returns-clause-nodes c =
    let inside : c.node-id.result < length c.args.nodes.now.items = c.in-Some.ensures.item.3.0 in
    let fits : IsNode c.args.world.now c.node-id.result c.act.new.node = search rules in
    nodes_set c.args.world.now c.args.nodes.now.items c.node-id.result c.act.new.node inside c.requires.nodes fits
