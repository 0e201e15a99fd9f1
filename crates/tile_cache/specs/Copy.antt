-- The copy that a cache has of a line: all that the coherence of many caches speaks of.
use Rattle.std.specs.Prelude.{ℕ, false, ◌≡◌, ◌==◌, ◌<◌, length, if◌then◌else◌, Option, Some, None}
use Rattle.sim_base.specs.declared.lines.LineData.{LineData}
use Rattle.tile_cache.specs.declared.ways.Hold.{Hold}
use Rattle.tile_cache.specs.declared.ways.Hold.TheVariants.{S, M}
use Rattle.tile_cache.specs.declared.ways.Way.{Way}
use Rattle.tile_cache.specs.Cache.{Sets, IsCache, empty_cache, way_of, hold_of, content_of, with_front, without_line, touched, written, line_with, downgraded, victim_of}

-- none; one that may be read, with its data; one that may be written, with its data
pub data Copy : Type 0 where
  absent : Copy
  shared : LineData → Copy
  modified : LineData → Copy

-- the copy that a way is
abbrev pub held_as : Hold → LineData → Copy
held_as S content = shared content
held_as M content = modified content

abbrev pub copy_in : Option Way → Copy
copy_in None = absent
copy_in (Some way) = held_as way.hold way.content

-- the copy that a cache has of a line
abbrev pub copy_of : Sets → ℕ → Copy
copy_of c line = copy_in (way_of c line)

-- a copy with other data; a copy that may only be read
abbrev pub with_data : (LineData → LineData) → Copy → Copy
with_data change absent = absent
with_data change (shared content) = shared (change content)
with_data change (modified content) = modified (change content)

abbrev pub as_shared : Copy → Copy
as_shared absent = absent
as_shared (shared content) = shared content
as_shared (modified content) = shared content

-- what a cache's answers tell of its copy of a line

-- a line that is held has its content as its copy
abbrev pub HeldShows : Type 0
HeldShows = (c : Sets) (line : ℕ) (hold : Hold) → hold_of c line ≡ Some hold
    → (content : LineData) × (content_of c line ≡ Some content) × (copy_of c line ≡ held_as hold content)

-- a line that isn't held has no copy
abbrev pub AbsentShows : Type 0
AbsentShows = (c : Sets) (line : ℕ) → hold_of c line ≡ None → copy_of c line ≡ absent

-- how each change of a cache shows at each line

-- a cache without lines has no copies
abbrev pub EmptyShows : Type 0
EmptyShows = (sets ways k : ℕ) → copy_of (empty_cache sets ways) k ≡ absent

-- only the line that comes to the front changes, to what came
abbrev pub FrontShows : Type 0
FrontShows = (c : Sets) (way : Way) (k : ℕ) → 0 < length c.sets
    → copy_of (with_front c way) k ≡ (if k == way.line then held_as way.hold way.content else copy_of c k)

-- only the line that is taken out changes, to none
abbrev pub DropShows : Type 0
DropShows = (c : Sets) (line k : ℕ) → 0 < length c.sets → copy_of (without_line c line) k ≡ (if k == line then absent else copy_of c k)

-- to touch a line shows nowhere
abbrev pub TouchHides : Type 0
TouchHides = (c : Sets) (line k : ℕ) → 0 < length c.sets → copy_of (touched c line) k ≡ copy_of c k

-- only the line that is written changes, in its data
abbrev pub WriteShows : Type 0
WriteShows = (c : Sets) (line offset size value k : ℕ) → 0 < length c.sets
    → copy_of (written c line offset size value) k ≡ (if k == line then with_data (λ content. line_with content offset size value) (copy_of c k) else copy_of c k)

-- only the line that is downgraded changes
abbrev pub DowngradeShows : Type 0
DowngradeShows = (c : Sets) (line k : ℕ) → 0 < length c.sets → copy_of (downgraded c line) k ≡ (if k == line then as_shared (copy_of c k) else copy_of c k)

-- a victim is another line
abbrev pub VictimIsAnother : Type 0
VictimIsAnother = (c : Sets) (line victim : ℕ) (hold : Hold) → victim_of c line ≡ Some (victim, hold) → (victim == line) ≡ false

-- and the cache has it, held as it says
abbrev pub VictimIsHeld : Type 0
VictimIsHeld = (c : Sets) (line victim : ℕ) (hold : Hold) → IsCache c → victim_of c line ≡ Some (victim, hold)
    → (content : LineData) × (copy_of c victim ≡ held_as hold content)
