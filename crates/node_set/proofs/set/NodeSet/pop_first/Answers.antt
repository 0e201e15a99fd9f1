use Rattle.std.proofs.Common.{◌∙◌}
use Rattle.node_set.proofs.Sets.{without-at_first}
use Rattle.node_set.proofs.set.NodeSet.pop_first.Goals as goal

pub returns-clause-rest : goal.returns-clause-rest
returns-clause-rest c = c.remove.ensures.nodes ∙ without-at_first c.in_ok-first.first c.args.self.now c.in_ok-first.ensures.known.ascends c.in_ok-first.ensures.node
