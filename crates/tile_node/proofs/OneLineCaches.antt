-- Each change of a tile's cache leaves it a cache.
use Rattle.std.proofs.Common.{◌≡◌, ℕ, Some, None, refl}
use Rattle.std.specs.Prelude.{Option}
use Rattle.sim_base.specs.declared.lines.LineData.{LineData}
use Rattle.rv_exec.specs.Access.{Asked}
use Rattle.tile_core.specs.Core.{line_at}
use Rattle.tile_cache.specs.declared.ways.Hold.{Hold}
use Rattle.tile_cache.specs.declared.ways.Hold.TheVariants.{S, M}
use Rattle.tile_cache.specs.Cache.{Sets, IsCache, without_line, touched, placed, downgraded, victim_of}
use Rattle.tile_cache.specs.Change.{touch, place, drop, write, downgrade}
use Rattle.tile_cache.proofs.ChangeLemmas.{changes_keep_cache}
use Rattle.tile_cache.proofs.CopyLemmas.{victim_leaves}
use Rattle.tile_node.specs.Tile.{Tile, place_in_line, done_on, with_written}
use Rattle.tile_node.specs.Deliver.{victim_tile}
use Rattle.tile_node.proofs.OneLineParts.{used}

pub IsCache-touched : (c : Sets) (line : ℕ) → IsCache c → IsCache (touched c line)
IsCache-touched c line h = changes_keep_cache c (touch line) tt h

pub IsCache-without : (c : Sets) (line : ℕ) → IsCache c → IsCache (without_line c line)
IsCache-without c line h = changes_keep_cache c (drop line) tt h

pub IsCache-downgraded : (c : Sets) (line : ℕ) → IsCache c → IsCache (downgraded c line)
IsCache-downgraded c line h = changes_keep_cache c (downgrade line) tt h

IsCache-written : (c : Sets) (access : Asked) (value : Option ℕ) → IsCache c → IsCache (with_written c access value)
IsCache-written c access None h = h
IsCache-written c access (Some value) h = changes_keep_cache c (write (line_at access.addr) (place_in_line access.addr) access.size value) tt h

pub IsCache-used : (c : Sets) (access : Option Asked) (content : LineData) → IsCache c → IsCache (used c access content)
IsCache-used c None content h = h
IsCache-used c (Some access) content h = IsCache-written c access (done_on access content).write h

pub IsCache-placed : (c : Sets) (line : ℕ) (hold : Hold) (content : LineData) → IsCache c → victim_of c line ≡ None → IsCache (placed c line hold content)
IsCache-placed c line hold content h room = changes_keep_cache c (place line hold content) room h

-- the cache after a victim left
abbrev pub room_of : Sets → Option (ℕ × Hold) → Sets
room_of c None = c
room_of c (Some (victim, hold)) = without_line c victim

pub room_is : (t : Tile) (victim : Option (ℕ × Hold)) → (victim_tile t victim).cache ≡ room_of t.cache victim
room_is t None = refl
room_is t (Some (line, S)) = refl
room_is t (Some (line, M)) = refl

pub IsCache-room : (c : Sets) (victim : Option (ℕ × Hold)) → IsCache c → IsCache (room_of c victim)
IsCache-room c None h = h
IsCache-room c (Some (line, hold)) h = IsCache-without c line h

-- it has room for the line
pub room_there : (c : Sets) (line : ℕ) (victim : Option (ℕ × Hold)) → IsCache c → victim_of c line ≡ victim → victim_of (room_of c victim) line ≡ None
room_there c line None h e = e
room_there c line (Some (victim, hold)) h e = victim_leaves c victim h line hold e
