use Rattle.std.proofs.Common.{◌∙◌, sym}
use Rattle.elf_image.proofs.Loads.{overlaps_step}
use Rattle.elf_image.proofs.faults.overlaps.Goals as goal

pub returns-then-shares_with_some : goal.returns-then-shares_with_some
returns-then-shares_with_some c =
    let step = overlaps_step c.args.segments.now _ c.loop-place.place _ _ c.loop-place-test.true c.index-segments-place.is c.split_at.ensures.back c.shares_with_some.ensures in
    sym (c.loop-place.invariant ∙ (step ∙ rw c.if-shares_with_some.true))

pub loop-place-preserved : goal.loop-place-preserved
loop-place-preserved c =
    let step = overlaps_step c.args.segments.now _ c.loop-place.place _ _ c.loop-place-test.true c.index-segments-place.is c.split_at.ensures.back c.shares_with_some.ensures in
    c.loop-place.invariant ∙ (step ∙ rw c.if-shares_with_some.false)
