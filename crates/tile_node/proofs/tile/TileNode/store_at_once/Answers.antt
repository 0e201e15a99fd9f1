-- The store is done on its line, which came to the front.
use Rattle.tile_node.proofs.Hits.{store_makes}
use Rattle.tile_node.proofs.tile.TileNode.store_at_once.Goals as goal

pub returns-clause-does : goal.returns-clause-does
returns-clause-does c =
    store_makes c.args.world.now _ _ c.self.view_is c.hit.new.self c.args.access.now c.op.result c.line_at-line.result c.addr.result c.place_of.result c.size.result c.in-Some.value
    c.overwrite.result c.overwrite.new.self c.finish-done.result c.go_past.new.self c.requires c.op.ensures.value c.line_at-line.ensures c.addr.ensures.value
    c.place_of.ensures.place c.size.ensures.value c.overwrite.ensures.held c.if-not-overwrite.false c.overwrite.ensures.cache c.finish-done.ensures c.in-Some.is c.go_past.ensures
    c.hit.ensures
