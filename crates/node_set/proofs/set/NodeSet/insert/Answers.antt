use Rattle.std.proofs.Common.{arith, ap, refl, ◌∙◌, length}
use Rattle.std.proofs.lemmas.Bool.Decides.{nat_tests}
use Rattle.std.proofs.lemmas.List.{length-set}
use Rattle.node_set.proofs.Held.{nodes_known, nodes_few, nodes-insert}
use Rattle.node_set.proofs.Sets.{length-with_node}
use Rattle.node_set.proofs.set.NodeSet.insert.Goals as goal

pub overflow_add-self : goal.overflow_add-self
overflow_add-self c = grind (arith, nat_tests, ap length c.self.view_is, nodes_few c.self.inside.words c.args.self.now c.self.told c.self.view_is)

pub invariant_of-self : goal.invariant_of-self
invariant_of-self c =
    grind (
      arith,
      nat_tests,
      ap length c.self.view_is,
      c.contains.ensures.has,
      length-with_node c.args.node c.args.self.now c.contains.ensures.known.ascends,
      ap length (nodes-insert c.self.inside.words c.args.self.now c.args.node c.self.told (omega arith) c.self.view_is),
    )

pub returns-clause-known : goal.returns-clause-known
returns-clause-known c = nodes_known _ _ (length-set _ _ _ ∙ c.self.told) refl

pub returns-clause-nodes : goal.returns-clause-nodes
returns-clause-nodes c = nodes-insert c.self.inside.words c.args.self.now c.args.node c.self.told (omega arith) c.self.view_is
