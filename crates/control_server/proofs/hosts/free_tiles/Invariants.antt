use Rattle.std.proofs.Common.{◌≡◌, map}
use Rattle.std.specs.List.{range_with_len}
use Rattle.control_server.specs.Control.{free_at_start}
use Rattle.control_server.proofs.hosts.free_tiles.Given as goal

abbrev pub invariant-loop-host : goal.invariant-loop-host
invariant-loop-host l = l.free.items ≡ map (free_at_start l.config) (range_with_len 0 l.host)
