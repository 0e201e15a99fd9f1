use Rattle.node_set.proofs.Held.{nodes_known}
use Rattle.node_set.proofs.set.NodeSet.copy.Goals as goal

pub returns-clause-known : goal.returns-clause-known
returns-clause-known c = nodes_known c.self.inside.words c.args.self.now c.self.told c.self.view_is
