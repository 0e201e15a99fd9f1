use Rattle.std.proofs.Common.{◌≡◌, ◌-◌, ◌==◌, filter}
use Rattle.std.specs.List.{range_with_len}
use Rattle.sim_base.specs.Numbering.{host_of}
use Rattle.local_server.proofs.local.first_idle.Given as goal

abbrev pub invariant-loop-tile : goal.invariant-loop-tile
invariant-loop-tile l =
    l.idle.keys ≡ filter (λ tile. host_of l.config tile == l.host) (range_with_len 1 (l.tile - 1))
