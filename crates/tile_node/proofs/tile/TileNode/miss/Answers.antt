-- The line's home is asked for it.
use Rattle.std.proofs.Common.{ap, ◌∙◌}
use Rattle.sim_base.specs.Numbering.{home_of}
use Rattle.tile_node.proofs.Made.{miss_makes}
use Rattle.tile_node.proofs.tile.TileNode.miss.Goals as goal

pub returns : goal.returns
returns c =
    miss_makes c.args.world.now _ _ c.self.view_is c.args.line c.args.want c.args.access c.home-home.result c.request.result c.saturating_add-self-inside.result _ _
    (c.home-home.ensures.home ∙ ap (λ s. home_of s c.args.line) c.config.ensures.value) c.request.ensures c.saturating_add-self-inside.ensures c.in_ok-push.ensures.items
