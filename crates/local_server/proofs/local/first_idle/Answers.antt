use Rattle.std.proofs.Common.{◌≡◌, ◌==◌, arith}
use Rattle.sim_base.proofs.CheckedSettings.{tiles_exist}
use Rattle.sim_base.specs.Numbering.{host_of}
use Rattle.local_server.specs.Local.{first_idle}
use Rattle.local_server.proofs.Idle.{own_more}
use Rattle.local_server.proofs.local.first_idle.Goals as goal

pub loop-tile-preserved : goal.loop-tile-preserved
loop-tile-preserved c =
    own_more (λ tile. host_of c.args.config.now tile == c.args.host) c.loop-tile.tile c.loop-tile.idle.keys c.enter_own.new.idle.keys (omega arith) c.loop-tile.invariant c.in_ok-enter_own.ensures

pub returns : goal.returns
unfolding first_idle
returns c =
    let end : c.loop-tile.tile ≡ c.args.config.now.tiles = omega (arith, tiles_exist c.args.config.now c.requires) in
    rw end at c.loop-tile.invariant
