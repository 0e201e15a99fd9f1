-- The access was done on the line, and its cost is the clock's.
use Rattle.std.proofs.Common.{ap, ◌∙◌}
use Rattle.mesh_model.specs.Cost.{cost_of}
use Rattle.tile_node.specs.Tile.{access_class}
use Rattle.tile_node.proofs.Made.{access_ended}
use Rattle.tile_node.proofs.tile.TileNode.end_access.Goals as goal

pub returns-clause-tile : goal.returns-clause-tile
returns-clause-tile c =
    access_ended c.args.world.now _ c.args.self.now c.args.access.now c.args.content.now c.args.delay c.load-old.result c.place_of.result c.size.result c.access_cost-cost.result c.delayed-self-inside.result
    (c.self.view_is ∙ c.do_access.ensures) c.load-old.ensures.value c.place_of.ensures.place c.size.ensures.value
    (c.access_cost-cost.ensures ∙ ap (λ o. cost_of c.args.world.now.config (access_class o)) c.op.ensures.value) c.delayed-self-inside.ensures
