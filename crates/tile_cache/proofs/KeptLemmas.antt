-- A set among those that a cache is kept as, and the cache with another in its place.
use Rattle.std.proofs.Common.{◌≡◌, ℕ, ◌<◌, ◌≤◌, List, [], None, length, get_or, set, sym, ap, ◌∙◌, arith}
use Rattle.std.proofs.lemmas.List.{length-map, get_or-map, map-set}
use Rattle.std.proofs.lemmas.List.Elements.{All-get_or, All-set}
use Rattle.std.specs.Vec.{vec_capacity}
use Rattle.tile_cache.specs.declared.set.Set.{Set}
use Rattle.tile_cache.specs.Cache.{Sets, IsCache, set_number, set_of, with_set, others, victim_of}
use Rattle.tile_cache.specs.Kept.{cache_of, IsKept}
use Rattle.tile_cache.proofs.CacheLemmas.{IsSet, IsSet-at, placed-room, IsCache-with_set}

-- a set stands at a line's place in a cache
pub record IsSetOf (ways : ℕ) (sets : List Set) (c : Sets) (line n : ℕ) (here : Set) : Type 0 where
  pub kept : IsKept ways sets
  pub view : cache_of ways sets ≡ c
  pub number : n ≡ set_number c line
  pub within : n < length c.sets
  pub read : here ≡ get_or sets n here

pub set_at : {ways : ℕ} {sets : List Set} {c : Sets} {line n : ℕ} {here : Set} → IsKept ways sets → cache_of ways sets ≡ c → n ≡ set_number c line → n < length c.sets → here ≡ get_or sets n here
    → IsSetOf ways sets c line n here
set_at kept view number within read = record { kept = kept; view = view; number = number; within = within; read = read }

module _ {ways : ℕ} {sets : List Set} {c : Sets} {line n : ℕ} {here : Set} (at : IsSetOf ways sets c line n here) where
  among : n < length sets
  among = let e : length sets ≡ length c.sets = sym (length-map sets (λ s. s.ways.items)) ∙ ap (λ d. length d.sets) at.view in omega (arith, at.within)

  pub set_of-here : here.ways.items ≡ set_of c line
  set_of-here =
      ap (λ s. s.ways.items) at.read ∙ sym (get_or-map (λ s. s.ways.items) sets n here [] among) ∙ ap (λ d. get_or d.sets n []) at.view ∙ ap (λ k. get_or c.sets k []) at.number

  pub is_cache : IsCache c
  is_cache = rw (← at.view) at.kept.cache

  pub IsSet-here : IsSet c (set_number c line) here.ways.items
  IsSet-here = rw set_of-here (IsSet-at c (set_number c line) is_cache)

  pub memory_here : ways ≤ vec_capacity here.ways
  memory_here = rw at.read (All-get_or (λ s. ways ≤ vec_capacity s.ways) sets n here among at.kept.memory)

  -- where the line has no victim, the set's other lines leave room for it
  pub room-here : victim_of c line ≡ None → length (others line here.ways.items) < c.ways
  room-here e = rw set_of-here (placed-room c line is_cache e)

  pub ways-same : ways ≡ c.ways
  ways-same = ap (λ d. d.ways) at.view

  -- the cache with another set there
  pub view-set : (new : Set) → cache_of ways (set sets n new) ≡ with_set c line new.ways.items
  view-set new = rw (map-set (λ s. s.ways.items) sets n new)
      (ap {B = Sets} (λ d. record d { sets = set d.sets n new.ways.items }) at.view ∙ ap {B = Sets} (λ k. record c { sets = set c.sets k new.ways.items }) at.number)

  pub kept-set : (new : Set) → ways ≤ vec_capacity new.ways → IsSet c (set_number c line) new.ways.items → IsKept ways (set sets n new)
  kept-set new memory s = record {
    cache = rw (view-set new) (IsCache-with_set c line new.ways.items is_cache s);
    memory = All-set (λ s. ways ≤ vec_capacity s.ways) sets n new memory at.kept.memory;
  }
