-- The lines of the file were put.
use Rattle.dir_slice.proofs.Starts.{segment_put}
use Rattle.dir_slice.proofs.homes.Homes.put_segment.Goals as goal

pub returns : goal.returns
returns c =
    segment_put c.args.world.now c.args.tile c.args.segment.now c.args.self.now c.loop-line.self c.len-len.result c.loop-line.line c.len-len.ensures c.if-len-eq0.false c.loop-line-test.false
    c.loop-line.auto.line-end c.loop-line.invariant
