use Rattle.std.proofs.Common.{arith}
use Rattle.node_set.proofs.Held.{nodes_known, has_node-nodes}
use Rattle.node_set.proofs.set.NodeSet.contains.Goals as goal

pub returns-clause-known : goal.returns-clause-known
returns-clause-known c = nodes_known c.self.inside.words c.args.self.now c.self.told c.self.view_is

pub returns-clause-has : goal.returns-clause-has
returns-clause-has c = has_node-nodes c.self.inside.words c.args.self.now c.args.node c.self.told (omega arith) c.self.view_is
