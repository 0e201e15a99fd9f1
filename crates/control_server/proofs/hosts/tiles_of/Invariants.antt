use Rattle.std.proofs.Common.{◌≡◌, ◌≤◌, count_by, nat_eq}
use Rattle.std.specs.List.{range_with_len}
use Rattle.sim_base.specs.Numbering.{host_of}
use Rattle.control_server.proofs.hosts.tiles_of.Given as goal

abbrev pub invariant-loop-tile : goal.invariant-loop-tile
invariant-loop-tile l = (l.tiles ≡ count_by (λ tile. nat_eq (host_of l.config tile) l.host) (range_with_len 0 l.tile)) × (l.tiles ≤ l.tile)
