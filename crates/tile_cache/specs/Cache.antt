-- A private cache: set-associative, write-back, the least recently used line of a set goes first. A line of
-- number n lies in set n modulo the number of sets. This simulator's own, after Graphite (HPCA 2010).
use Rattle.std.specs.Prelude.{ℕ, ◌%◌, ◌<◌, ◌≤◌, ◌≡◌, ◌==◌, ◌||◌, not, Bool, true, false, nat_lt, List, [], ◌∷◌, length, map, filter, find, replicate, All, if◌then◌else◌, Option, Some, None, is_some, slice_index, slice_index_or, slice_set}
use Rattle.std.specs.List.{list_any}
use Rattle.std.specs.Option.{option_map, option_map_or}
use Rattle.sim_base.specs.declared.lines.LineData.{LineData}
use Rattle.sim_base.specs.LittleEndian.{loaded, stored}
use Rattle.tile_cache.specs.declared.ways.Hold.{Hold}
use Rattle.tile_cache.specs.declared.ways.Hold.TheVariants.{S, M}
use Rattle.tile_cache.specs.declared.ways.Way.{Way}

-- a cache: how many lines each set may have, and the sets, each with its most recent line first
pub record Sets : Type 0 where
  pub ways : ℕ
  pub sets : List (List Way)

-- the number of the set of a line, and that set
abbrev pub set_number : Sets → ℕ → ℕ
set_number c line = line % length c.sets

abbrev pub set_of : Sets → ℕ → List Way
set_of c line = slice_index_or c.sets (set_number c line) []

-- the cache with another set in the place of a line's
abbrev pub with_set : Sets → ℕ → List Way → Sets
with_set c line ways = record c { sets = slice_set c.sets (set_number c line) ways }

-- whether a way has this line; the way that has it, and those that don't
abbrev pub has_line : ℕ → Way → Bool
has_line line way = way.line == line

abbrev pub way_of : Sets → ℕ → Option Way
way_of c line = find (has_line line) (set_of c line)

abbrev pub others : ℕ → List Way → List Way
others line ways = filter (λ way. not (has_line line way)) ways

-- ways with another in the place of the one that has this line
abbrev pub with_line_changed : ℕ → (Way → Way) → List Way → List Way
with_line_changed line change ways = map (λ way. if has_line line way then change way else way) ways

-- the three changes of a cache

-- a way comes to the front of its set, in the place of what the set had of its line
abbrev pub with_front : Sets → Way → Sets
with_front c way = with_set c way.line (way ∷ others way.line (set_of c way.line))

-- a line is taken out
abbrev pub without_line : Sets → ℕ → Sets
without_line c line = with_set c line (others line (set_of c line))

-- what the cache has of a line is changed where it is
abbrev pub with_change : Sets → ℕ → (Way → Way) → Sets
with_change c line change = with_set c line (with_line_changed line change (set_of c line))

-- the calls

-- a cache without lines
unfoldable pub empty_cache : ℕ → ℕ → Sets
empty_cache sets ways = record { ways = ways; sets = replicate sets [] }

-- how a line is held, and what it holds, where the cache has it
abbrev pub hold_of : Sets → ℕ → Option Hold
hold_of c line = option_map (λ way. way.hold) (way_of c line)

abbrev pub content_of : Sets → ℕ → Option LineData
content_of c line = option_map (λ way. way.content) (way_of c line)

-- the number in so many bytes at an offset of a line, where the cache has it
abbrev pub number_of : Sets → ℕ → ℕ → ℕ → Option ℕ
number_of c line offset size = option_map (λ way. loaded (slice_index way.content.bytes) offset size) (way_of c line)

-- whether a hold lets its holder write
abbrev pub is_m : Option Hold → Bool
is_m (Some M) = true
is_m _ = false

-- a line comes to the front of its set as it is
abbrev pub touched : Sets → ℕ → Sets
touched c line = option_map_or (λ way. with_front c way) (way_of c line) c

-- a line comes to the front of its set with a hold and a content
abbrev pub placed : Sets → ℕ → Hold → LineData → Sets
placed c line hold content = with_front c (record { line = line; hold = hold; content = content })

-- a number's low size bytes are written at an offset of a line
abbrev pub line_with : LineData → ℕ → ℕ → ℕ → LineData
line_with content offset size value = record { bytes = stored slice_set content.bytes offset size value }

abbrev pub way_written : ℕ → ℕ → ℕ → Way → Way
way_written offset size value way = record way { content = line_with way.content offset size value }

abbrev pub written : Sets → ℕ → ℕ → ℕ → ℕ → Sets
written c line offset size value = with_change c line (way_written offset size value)

-- a line that was held in M is held in S
abbrev pub way_downgraded : Way → Way
way_downgraded way = record way { hold = S }

abbrev pub downgraded : Sets → ℕ → Sets
downgraded c line = with_change c line way_downgraded

-- the last way of a set
abbrev pub last_way : List Way → Option Way
last_way [] = None
last_way (way ∷ []) = Some way
last_way (way ∷ next ∷ ways) = last_way (next ∷ ways)

-- which line a way has, and how it is held
abbrev pub line_and_hold : Way → ℕ × Hold
line_and_hold way = (way.line, way.hold)

-- what has to make room before a line is placed: the last line of its set with its hold, where the set is full
-- and doesn't have the line
abbrev pub victim_of : Sets → ℕ → Option (ℕ × Hold)
victim_of c line =
    if is_some (way_of c line) then None
    else (if nat_lt (length (set_of c line)) c.ways then None
    else option_map line_and_hold (last_way (set_of c line)))

-- a line that leaves makes room for each line whose victim it is
abbrev pub LeavesRoom : Sets → ℕ → Sets → Type 0
LeavesRoom old line new = (k : ℕ) (hold : Hold) → victim_of old k ≡ Some (line, hold) → victim_of new k ≡ None

-- whether some line stands twice in a set
abbrev pub has_repeat : List Way → Bool
has_repeat [] = false
has_repeat (way ∷ ways) = list_any (has_line way.line) ways || has_repeat ways

-- what is known of every cache: a set has room for its lines, only lines of its own, and each at most once
pub record IsCache (c : Sets) : Type 0 where
  pub some_set : 0 < length c.sets
  pub some_way : 0 < c.ways
  pub room : (k : ℕ) → length (slice_index_or c.sets k []) ≤ c.ways
  pub own : (k : ℕ) → All (λ way. set_number c way.line ≡ k) (slice_index_or c.sets k [])
  pub once : (k : ℕ) → has_repeat (slice_index_or c.sets k []) ≡ false
