use Rattle.std.proofs.Common.{arith, ap, refl, ◌∙◌, length}
use Rattle.std.proofs.lemmas.Bool.Decides.{nat_tests}
use Rattle.std.proofs.lemmas.List.{length-set}
use Rattle.node_set.proofs.Held.{nodes_known, nodes-remove}
use Rattle.node_set.proofs.Sets.{length-without}
use Rattle.node_set.proofs.set.NodeSet.remove.Goals as goal

pub invariant_of-self : goal.invariant_of-self
invariant_of-self c =
    grind (
      arith,
      nat_tests,
      ap length c.self.view_is,
      c.contains.ensures.has,
      length-without c.args.node c.args.self.now c.contains.ensures.known.ascends,
      ap length (nodes-remove c.self.inside.words c.args.self.now c.args.node c.self.told (omega arith) c.self.view_is),
    )

pub returns-clause-known : goal.returns-clause-known
returns-clause-known c = nodes_known _ _ (length-set _ _ _ ∙ c.self.told) refl

pub returns-clause-nodes : goal.returns-clause-nodes
returns-clause-nodes c = nodes-remove c.self.inside.words c.args.self.now c.args.node c.self.told (omega arith) c.self.view_is
