-- Each change of a cache keeps its size, and that it is a cache.
use Rattle.std.proofs.Common.{ℕ, List, [], refl, arith}
use Rattle.std.proofs.lemmas.List.{length-set, length-replicate}
use Rattle.std.proofs.lemmas.List.Elements.{All-nil}
use Rattle.tile_cache.specs.declared.ways.Way.{Way}
use Rattle.tile_cache.specs.Cache.{Sets, IsCache, empty_cache, set_number, set_of, with_set, way_written, way_downgraded}
use Rattle.tile_cache.specs.Kept.{touched_ways}
use Rattle.tile_cache.specs.Change.{touch, place, drop, write, downgrade, HasSameSize, EmptyHasSize, EmptyIsCache, ChangesKeepSize, ChangesKeepCache}
use Rattle.tile_cache.proofs.CacheLemmas.{IsSet, IsSet-at, IsSet-others, IsSet-front, IsSet-touched, IsSet-changed, IsCache-with_set, touched-set, placed-room}
use Rattle.tile_cache.proofs.CopyLemmas.{empty_at}

with_set-size : (c : Sets) (line : ℕ) (ways : List Way) → HasSameSize c (with_set c line ways)
with_set-size c line ways = record { sets = length-set c.sets (set_number c line) ways; ways = refl }

pub changes_keep_size : ChangesKeepSize
changes_keep_size c (touch line) = rw (touched-set c line) (with_set-size c line (touched_ways line (set_of c line)))
changes_keep_size c (place line hold content) = with_set-size c line _
changes_keep_size c (drop line) = with_set-size c line _
changes_keep_size c (write line offset size value) = with_set-size c line _
changes_keep_size c (downgrade line) = with_set-size c line _

pub empty_has_size : EmptyHasSize
unfolding empty_cache
empty_has_size sets ways = length-replicate sets []

pub empty_is_cache : EmptyIsCache
unfolding empty_cache
empty_is_cache sets ways some_set some_way = record {
  some_set = rw (length-replicate {A = List Way} sets []) some_set;
  some_way = some_way;
  room = λ k. rw (empty_at sets k) (omega arith);
  own = λ k. rw (empty_at sets k) (All-nil _);
  once = λ k. rw (empty_at sets k) refl;
}

here : (c : Sets) (line : ℕ) → IsCache c → IsSet c (set_number c line) (set_of c line)
here c line h = IsSet-at c (set_number c line) h

pub changes_keep_cache : ChangesKeepCache
changes_keep_cache c (touch line) room h = rw (touched-set c line) (IsCache-with_set c line _ h (IsSet-touched c line (set_of c line) (here c line h)))
changes_keep_cache c (place line hold content) room h =
    IsCache-with_set c line _ h (IsSet-front c line (record { line = line; hold = hold; content = content }) (set_of c line) refl (placed-room c line h room) (here c line h))
changes_keep_cache c (drop line) room h = IsCache-with_set c line _ h (IsSet-others c (set_number c line) line (set_of c line) (here c line h))
changes_keep_cache c (write line offset size value) room h =
    IsCache-with_set c line _ h (IsSet-changed c (set_number c line) line (way_written offset size value) (set_of c line) (λ way. refl) (here c line h))
changes_keep_cache c (downgrade line) room h =
    IsCache-with_set c line _ h (IsSet-changed c (set_number c line) line way_downgraded (set_of c line) (λ way. refl) (here c line h))
