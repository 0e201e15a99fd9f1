-- The node has stepped, is noted, and what its last step sent has joined the lists.
use Rattle.std.proofs.Common.{◌≡◌, Some, refl, ap, sym, ◌∙◌, rules}
use Rattle.std.specs.Prelude.{slice_get, slice_set}
use Rattle.std.proofs.lemmas.Option.{slice_get-get_or}
use Rattle.node_machine.specs.Pending.{with_messages}
use Rattle.node_machine.specs.Machine.{can_step}
use Rattle.node_machine.proofs.MakeLemmas.{nodes_set}
use Rattle.node_machine.proofs.AloneRuns.{steps_done}
use Rattle.node_machine.proofs.alone.step_all.Goals as goal

pub returns-clause-stepped : goal.returns-clause-stepped
returns-clause-stepped c =
    let at : slice_get c.args.nodes.now.items c.args.id ≡ Some c.index_mut-node.result.now =
    slice_get-get_or c.args.nodes.now.items c.args.id c.index_mut-node.result.now c.requires.can.in_range ∙ ap Some (sym c.index_mut-node.ensures.value) in
    let steps = c.in_ok-count.ensures.steps in
    let inboxes : c.post.new.pending.inboxes ≡ with_messages c.args.id c.step_on.new.out.items c.args.pending.now.inboxes = search rules in
    let noted : c.post.new.pending.steps ≡ slice_set c.args.pending.now.steps c.args.id (can_step c.step_on.new.self) = search rules in
    steps_done c.args.world.now c.args.id c.args.most c.in_ok-count.count c.index_mut-node.result.now c.step_on.new.self c.args.nodes.now.items _ c.args.pending.now c.post.new.pending
    c.step_on.new.out.items at refl steps c.requires.steps inboxes noted

pub returns-clause-nodes : goal.returns-clause-nodes
returns-clause-nodes c =
    nodes_set c.args.world.now c.args.nodes.now.items c.args.id c.step_on.new.self c.requires.can.in_range c.requires.nodes c.in_ok-count.ensures.fits
