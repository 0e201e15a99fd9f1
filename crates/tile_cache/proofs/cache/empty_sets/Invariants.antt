use Rattle.std.proofs.Common.{◌≡◌, ◌≤◌, List, [], map, replicate}
use Rattle.std.specs.Prelude.{All}
use Rattle.std.specs.Vec.{vec_capacity}
use Rattle.tile_cache.specs.declared.ways.Way.{Way}
use Rattle.tile_cache.proofs.cache.empty_sets.Given as goal

-- the sets so far are empty, each with its memory
abbrev pub invariant-loop : goal.invariant-loop
invariant-loop l = record {
  empty : map {B = List Way} (λ set. set.ways.items) l.made.items ≡ replicate l.counter [];
  memory : All (λ set. l.ways ≤ vec_capacity set.ways) l.made.items;
}
