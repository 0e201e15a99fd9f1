-- The slice's answer is the tile's.
use Rattle.wire_msg.specs.declared.lines.Want.TheVariants.{Write}
use Rattle.wire_msg.specs.declared.lines.Up.TheVariants.{Asks}
use Rattle.tile_node.proofs.Made.{home_makes}
use Rattle.tile_node.proofs.tile.TileNode.hear.Goals as goal

pub returns-in_ok-request-in-GetM : goal.returns-in_ok-request-in-GetM
returns-in_ok-request-in-GetM c =
    rw c.in-GetM.is
    (home_makes c.args.world.now _ _ c.self.view_is c.args.from c.in-GetM.line (Asks Write) c.config-config.result.now c.config-config.ensures.value c.requires.fits.home c.request-in-GetM.new.self _ _
    c.in_ok-request-in-GetM.ensures)
