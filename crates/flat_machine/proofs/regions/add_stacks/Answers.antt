-- One stack more.
use Rattle.std.proofs.Common.{◌≡◌, ◌+◌, ◌++◌, ◌∷◌, [], ap, sym, ◌∙◌, append_assoc, map, add-one, arith}
use Rattle.std.specs.List.{range_with_len}
use Rattle.flat_machine.specs.Inner.{stack_region}
use Rattle.sim_base.proofs.Lists.{map-range-more}
use Rattle.flat_machine.proofs.regions.add_stacks.Goals as goal

pub loop-tile-preserved : goal.loop-tile-preserved
loop-tile-preserved c =
    let next : stack_region c.args.world.now (0 + c.loop-tile.tile) ≡ c.in_ok-region.region = ap (stack_region c.args.world.now) (omega arith) ∙ sym c.in_ok-region.ensures in
    rw (add-one, map-range-more (stack_region c.args.world.now) 0 c.loop-tile.tile, next)
    (c.in_ok-push.ensures.items ∙ ap (λ items. items ++ c.in_ok-region.region ∷ []) c.loop-tile.invariant
    ∙ append_assoc c.args.regions.now.items (map (stack_region c.args.world.now) (range_with_len 0 c.loop-tile.tile)) (c.in_ok-region.region ∷ []))
