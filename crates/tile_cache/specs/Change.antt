-- What every change of a cache keeps: its size, and what is known of every cache.
use Rattle.std.specs.Prelude.{ℕ, ◌≡◌, ◌<◌, length, None}
use Rattle.sim_base.specs.declared.lines.LineData.{LineData}
use Rattle.tile_cache.specs.declared.ways.Hold.{Hold}
use Rattle.tile_cache.specs.Cache.{Sets, IsCache, empty_cache, touched, placed, without_line, written, downgraded, victim_of}

-- a change of a cache, as a call makes it: of which line; how it is held and what it holds; the offset, the size and
-- the value of what is written
pub data Change : Type 0 where
  touch : ℕ → Change
  place : ℕ → Hold → LineData → Change
  drop : ℕ → Change
  write : ℕ → ℕ → ℕ → ℕ → Change
  downgrade : ℕ → Change

abbrev pub changed : Sets → Change → Sets
changed c (touch line) = touched c line
changed c (place line hold content) = placed c line hold content
changed c (drop line) = without_line c line
changed c (write line offset size value) = written c line offset size value
changed c (downgrade line) = downgraded c line

-- a line is placed only where nothing has to make room first
abbrev pub HasRoom : Sets → Change → Type 0
HasRoom c (place line hold content) = victim_of c line ≡ None
HasRoom c _ = Unit {0}

-- as many sets as before, each for as many lines
pub record HasSameSize (old new : Sets) : Type 0 where
  pub sets : length new.sets ≡ length old.sets
  pub ways : new.ways ≡ old.ways

abbrev pub ChangesKeepSize : Type 0
ChangesKeepSize = (c : Sets) (change : Change) → HasSameSize c (changed c change)

-- a cache without lines is a cache of its size, and stays a cache
abbrev pub EmptyHasSize : Type 0
EmptyHasSize = (sets ways : ℕ) → length (empty_cache sets ways).sets ≡ sets

abbrev pub EmptyIsCache : Type 0
EmptyIsCache = (sets ways : ℕ) → 0 < sets → 0 < ways → IsCache (empty_cache sets ways)

abbrev pub ChangesKeepCache : Type 0
ChangesKeepCache = (c : Sets) (change : Change) → HasRoom c change → IsCache c → IsCache (changed c change)
