-- The line that goes makes room, as the cache says.
use Rattle.std.proofs.Common.{ap, ◌∙◌}
use Rattle.tile_cache.specs.Cache.{victim_of}
use Rattle.tile_node.specs.Tile.{Tile}
use Rattle.tile_node.proofs.tile.TileNode.give_up.Goals as goal

pub returns-clause-room : goal.returns-clause-room
returns-clause-room c = λ k hold e. c.drop_line.ensures.room k hold (ap (λ (t : Tile). victim_of t.cache k) c.self.view_is ∙ e)
