use Rattle.std.proofs.Common.{arith}
use Rattle.node_set.proofs.Held.{nodes_known}
use Rattle.node_set.proofs.Counts.{place_here, place_later}
use Rattle.node_set.proofs.set.NodeSet.get.Goals as goal

pub returns-then-left-count-clause-known : goal.returns-then-left-count-clause-known
returns-then-left-count-clause-known c = nodes_known c.self.inside.words c.args.self.now c.self.told c.self.view_is

pub returns-then-left-count-clause-node : goal.returns-then-left-count-clause-node
returns-then-left-count-clause-node c =
    place_here c.self.inside.words c.args.self.now c.loop-index.index c.loop-index.left c.args.place c.bit_at_place.result (omega arith) c.self.view_is c.loop-index.invariant c.bit_at_place.ensures.bit

pub loop-index-preserved : goal.loop-index-preserved
loop-index-preserved c =
    place_later c.self.inside.words c.loop-index.index c.loop-index.left c.args.place (omega arith) (omega arith) c.if-left-count.false c.loop-index.invariant

pub returns-clause-known : goal.returns-clause-known
returns-clause-known c = nodes_known c.self.inside.words c.args.self.now c.self.told c.self.view_is
