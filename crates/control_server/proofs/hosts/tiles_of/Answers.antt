-- One more tile is of the host, or isn't.
use Rattle.std.proofs.Common.{arith}
use Rattle.std.proofs.lemmas.Grind.{common_steps}
use Rattle.control_server.proofs.Counting.{count_by-range_more}
use Rattle.control_server.proofs.hosts.tiles_of.Goals as goal

pub loop-tile-preserved : goal.loop-tile-preserved
loop-tile-preserved c = grind (arith, common_steps, count_by-range_more)
