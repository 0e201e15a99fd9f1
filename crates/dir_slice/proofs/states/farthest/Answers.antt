use Rattle.std.proofs.Common.{◌≡◌, ◌≤◌, ◌∷◌, ap, ◌∙◌}
use Rattle.std.specs.Ordering.{nat_cmp, ord_max}
use Rattle.std.proofs.lemmas.List.Elements.{All-rest}
use Rattle.dir_slice.proofs.Sent.{first_and_rest, farthest_rest}
use Rattle.dir_slice.proofs.states.farthest.Goals as goal

pub loop-node-preserved : goal.loop-node-preserved
loop-node-preserved c =
    let left_is : c.loop-node.left ≡ c.in-Some.node ∷ c.pop_first.new.self = first_and_rest c.loop-node.left c.pop_first.new.self c.in-Some.node c.in-Some.ensures.first c.in-Some.ensures.rest in
    record {
      within = All-rest (λ node. node ≤ c.args.config.now.tiles) c.in-Some.node c.pop_first.new.self c.loop-node.left left_is c.loop-node.invariant.within;
      most = farthest_rest c.args.config.now c.args.tile c.args.nodes c.loop-node.left c.pop_first.new.self c.in-Some.node c.loop-node.most c.max-most.result left_is (c.max-most.ensures ∙ ap (ord_max nat_cmp c.loop-node.most) c.hops.ensures.value) c.loop-node.invariant.most;
    }
