-- One more host is counted.
use Rattle.std.proofs.Common.{arith}
use Rattle.std.proofs.lemmas.Grind.{common_steps}
use Rattle.control_server.proofs.Counting.{map-range_more}
use Rattle.control_server.proofs.hosts.free_tiles.Goals as goal

pub loop-host-preserved : goal.loop-host-preserved
loop-host-preserved c = grind (arith, common_steps, map-range_more)
