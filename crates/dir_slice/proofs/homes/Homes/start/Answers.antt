-- The lines of all segments are those of the start.
use Rattle.std.proofs.Common.{ap, ◌∙◌}
use Rattle.dir_slice.proofs.Starts.{lines_put}
use Rattle.dir_slice.proofs.homes.Homes.start.Goals as goal

pub returns : goal.returns
returns c =
    lines_put c.args.world.now c.args.tile c.loop-segment.homes c.segments-segment-items.result.now c.loop-segment.segment-index
    (c.segments-segment-items.ensures.value ∙ ap (λ image. image.segments) c.image.ensures) c.loop-segment-test.false c.loop-segment.invariant
