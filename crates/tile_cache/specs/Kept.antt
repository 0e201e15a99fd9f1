-- For the contracts of the code alone: how a cache is kept, a vector of sets, each a vector that never has to grow; and what
-- the calls of one set do, way by way.
use Rattle.std.specs.Prelude.{ℕ, ◌≤◌, List, ◌∷◌, All, find, map, Option}
use Rattle.std.specs.List.{remove, slice_get}
use Rattle.std.specs.Option.{option_map, option_map_or}
use Rattle.std.specs.Vec.{vec_capacity}
use Rattle.tile_cache.specs.declared.set.Set.{Set}
use Rattle.tile_cache.specs.declared.ways.Hold.{Hold}
use Rattle.tile_cache.specs.declared.ways.Way.{Way}
use Rattle.tile_cache.specs.Cache.{Sets, IsCache, has_line, others}

-- the cache that the sets make
abbrev pub cache_of : ℕ → List Set → Sets
cache_of ways sets = record { ways = ways; sets = map (λ set. set.ways.items) sets }

-- they make a cache, and each has memory for all the lines that it may have
pub record IsKept (ways : ℕ) (sets : List Set) : Type 0 where
  pub cache : IsCache (cache_of ways sets)
  pub memory : All (λ set. ways ≤ vec_capacity set.ways) sets

-- one set

-- how ways hold this line, where one has it
abbrev pub hold_among : ℕ → List Way → Option Hold
hold_among line ways = option_map (λ way. way.hold) (find (has_line line) ways)

-- ways with the one that has this line brought to their front
abbrev pub touched_ways : ℕ → List Way → List Way
touched_ways line ways = option_map_or (λ way. way ∷ others line ways) (find (has_line line) ways) ways

-- ways with the one at a place brought to their front
abbrev pub at_front : ℕ → List Way → List Way
at_front place ways = option_map_or (λ way. way ∷ remove ways place) (slice_get ways place) ways
