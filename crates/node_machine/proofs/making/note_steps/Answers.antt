-- One more node is noted.
use Rattle.std.proofs.Common.{◌≡◌, ◌++◌, Some, length, map, take, drop, refl, ◌∙◌, rules}
use Rattle.std.specs.Prelude.{slice_get, slice_set}
use Rattle.std.proofs.lemmas.Option.{slice_get_read}
use Rattle.node_machine.specs.Machine.{can_step}
use Rattle.node_machine.proofs.StepsLemmas.{noted}
use Rattle.node_machine.proofs.making.note_steps.Goals as goal

pub loop-id-preserved : goal.loop-id-preserved
loop-id-preserved c =
    let at : slice_get c.args.nodes.now c.loop-id.id ≡ Some c.index-nodes-id.result =
    slice_get_read c.args.nodes.now (length c.args.nodes.now) c.loop-id.id c.index-nodes-id.result refl c.loop-id-test.true c.index-nodes-id.is in
    let is : c.set_step.new.self.steps ≡ slice_set (map can_step (take c.loop-id.id c.args.nodes.now) ++ drop c.loop-id.id c.args.pending.now.steps) c.loop-id.id (can_step c.index-nodes-id.result) = search rules in
    record {
      inboxes = search rules;
      steps = is ∙ noted can_step c.args.nodes.now c.args.pending.now.steps c.loop-id.id c.index-nodes-id.result at c.requires.length;
    }
