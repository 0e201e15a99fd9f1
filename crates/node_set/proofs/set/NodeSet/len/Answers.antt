use Rattle.std.proofs.Common.{arith, ap, length}
use Rattle.node_set.proofs.Held.{nodes_known, nodes_few}
use Rattle.node_set.proofs.set.NodeSet.len.Goals as goal

pub returns-clause-known : goal.returns-clause-known
returns-clause-known c = nodes_known c.self.inside.words c.args.self.now c.self.told c.self.view_is

pub returns-clause-few : goal.returns-clause-few
returns-clause-few c = omega (arith, ap length c.self.view_is, nodes_few c.self.inside.words c.args.self.now c.self.told c.self.view_is)
