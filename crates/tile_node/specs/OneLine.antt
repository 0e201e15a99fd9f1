-- What a tile does, seen at one line: what happens to its end of the line in an event, and what the copy that its cache has,
-- what it tells the line's home, and what it waits for of the line are by that. Nothing here has to be believed: the laws
-- of the other module say that the tile's definitions show so, and the coherence of lines speaks of nothing else. This
-- simulator's own.
use Rattle.std.specs.Prelude.{ℕ, ◌==◌, ◌&&◌, Bool, true, false, List, [], ◌∷◌, if◌then◌else◌, Option, Some, None}
use Rattle.std.specs.List.{filter_map}
use Rattle.sim_base.specs.declared.lines.LineData.{LineData}
use Rattle.rv_exec.specs.Access.{Asked}
use Rattle.elf_image.specs.Layout.{Setup}
use Rattle.wire_msg.specs.declared.messages.Msg.{Msg}
use Rattle.wire_msg.specs.declared.messages.Msg.TheVariants.{DataS, DataM, Inv, Fetch, FetchInv}
use Rattle.wire_msg.specs.declared.lines.Want.{Want}
use Rattle.wire_msg.specs.declared.lines.Want.TheVariants.{Read, Write}
use Rattle.wire_msg.specs.declared.lines.Up.{Up}
use Rattle.wire_msg.specs.declared.lines.Up.TheVariants.{Asks, GivesUp, Acknowledges, HandsOver}
use Rattle.wire_msg.specs.Message.{Down, gives, drops, fetches, may_send, up_about}
use Rattle.tile_core.specs.declared.cores.Status.{Status}
use Rattle.tile_core.specs.declared.cores.Status.TheVariants.{Miss}
use Rattle.tile_core.specs.declared.plans.Plan.{Plan}
use Rattle.tile_core.specs.declared.plans.Plan.TheVariants.{Access}
use Rattle.tile_core.specs.Gathering.{Gathering, is_gathered}
use Rattle.tile_core.specs.Core.{line_missed}
use Rattle.tile_core.specs.Plan.{plan_of}
use Rattle.tile_cache.specs.declared.ways.Hold.{Hold}
use Rattle.tile_cache.specs.declared.ways.Hold.TheVariants.{S, M}
use Rattle.tile_cache.specs.declared.ways.Way.{Way}
use Rattle.tile_cache.specs.Cache.{way_of, victim_of, line_with}
use Rattle.tile_cache.specs.Copy.{Copy, absent, shared, modified, held_as, with_data}
use Rattle.tile_node.specs.Tile.{Tile, access_want, place_in_line, done_on}
use Rattle.tile_node.specs.Step.{is_writing, waits_for_limit, looks_around}
use Rattle.tile_node.specs.Deliver.{hold_suits}

-- what a tile waits for of a line, if it does

-- what a line is wanted for: by an access, or by the next byte of a write call, which is only read
abbrev pub want_for : Option Asked → Want
want_for None = Read
want_for (Some access) = access_want access.op

abbrev pub wants_by : Gathering → ℕ → Status → Option Want
wants_by write k (Miss access) = if line_missed write access == k then Some (want_for access) else None
wants_by write k _ = None

abbrev pub wants : Tile → ℕ → Option Want
wants t k = wants_by t.core.write k t.core.status

-- what messages say of a line to its home, in order, whoever gets them
abbrev pub told_about : ℕ → List (ℕ × Msg) → List Up
told_about k mail = filter_map (λ m. up_about k m.1) mail

-- what an access, or the reading of a write call's next byte, makes of a line's data

abbrev pub data_written : Asked → Option ℕ → LineData → LineData
data_written access None content = content
data_written access (Some value) content = line_with content (place_in_line access.addr) access.size value

abbrev pub data_after : Option Asked → LineData → LineData
data_after None content = content
data_after (Some access) content = data_written access (done_on access content).write content

-- what happens to a tile's end of a line in an event: nothing; an access is done on its copy, whose data changes so; the
-- line is asked for; the line came and is held so, with what the access made of it; the copy made room for another line;
-- its home had it dropped; its home fetched it, for a reader or for a writer
pub data Happening : Type 0 where
  nothing : Happening
  hit : (LineData → LineData) → Happening
  asked : Want → Happening
  came : Hold → LineData → Happening
  evicted : Happening
  invalidated : Happening
  fetched : Want → Happening

-- the copy after it: only one to read is dropped for the home, only one to write is fetched

abbrev pub dropped_copy : Copy → Copy
dropped_copy (shared content) = absent
dropped_copy copy = copy

abbrev pub left_for : Want → LineData → Copy
left_for Read content = shared content
left_for Write content = absent

abbrev pub fetched_copy : Want → Copy → Copy
fetched_copy want (modified content) = left_for want content
fetched_copy want copy = copy

abbrev pub copy_after : Happening → Copy → Copy
copy_after (hit change) copy = with_data change copy
copy_after (came hold content) copy = held_as hold content
copy_after evicted copy = absent
copy_after invalidated copy = dropped_copy copy
copy_after (fetched want) copy = fetched_copy want copy
copy_after _ copy = copy

-- what the line's home is told: where a line to write leaves, its data; that one to read was dropped, always

abbrev pub put_of : Copy → List Up
put_of (modified content) = GivesUp content ∷ []
put_of _ = []

abbrev pub answer_of : Copy → List Up
answer_of (modified content) = HandsOver content ∷ []
answer_of _ = []

abbrev pub told_after : Happening → Copy → List Up
told_after (asked want) copy = Asks want ∷ []
told_after evicted copy = put_of copy
told_after invalidated copy = Acknowledges ∷ []
told_after (fetched want) copy = answer_of copy
told_after _ copy = []

-- what is waited for after it
abbrev pub wants_after : Happening → Option Want → Option Want
wants_after (asked want) before = Some want
wants_after (came hold content) before = None
wants_after _ before = before

-- what an event is at a line k

-- it happens to one line alone
abbrev pub at_line : ℕ → ℕ → Happening → Happening
at_line line k h = if k == line then h else nothing

-- an access, or the next byte of a write, needs its line: it is done on a copy that is enough for it, or the line is
-- asked for
abbrev pub needs : Option Asked → Option Way → Happening
needs access None = asked (want_for access)
needs access (Some way) = if hold_suits access way.hold then hit (data_after access) else asked (want_for access)

abbrev pub needs_at : Tile → Option Asked → ℕ → Happening
needs_at t access k = at_line (line_missed t.core.write access) k (needs access (way_of t.cache (line_missed t.core.write access)))

-- a step: only a plan's access and a write's next byte need a line
abbrev pub follows_at : Tile → Plan → ℕ → Happening
follows_at t (Access access) k = needs_at t (Some access) k
follows_at t _ k = nothing

abbrev pub writes_at : Tile → ℕ → Happening
writes_at t k = if is_gathered t.core.write then nothing else needs_at t None k

abbrev pub works_at : Setup → Tile → ℕ → Happening
works_at w t k = if is_writing t.core.status then writes_at t k else follows_at t (plan_of w t.core) k

abbrev pub step_at : Setup → Tile → ℕ → Happening
step_at w t k =
    if waits_for_limit w.config.policy t.core.clock t.core.limit then nothing
    else (if looks_around w.config.policy w.config.tiles t.core.clock t.core.next_check then nothing
    else works_at w t k)

-- a miss ends: the line comes, and a victim leaves
abbrev pub leaves_at : Option (ℕ × Hold) → ℕ → Happening
leaves_at None k = nothing
leaves_at (Some (line, hold)) k = at_line line k evicted

abbrev pub comes_at : Tile → Option Asked → ℕ → Hold → LineData → ℕ → Happening
comes_at t access line hold content k = if k == line then came hold (data_after access content) else leaves_at (victim_of t.cache line) k

-- data is taken where the tile misses the line, and its hold is enough for what waits
abbrev pub data_at : Tile → ℕ → Hold → LineData → Status → ℕ → Happening
data_at t line hold content (Miss access) k =
    if line_missed t.core.write access == line && hold_suits access hold then comes_at t access line hold content k else nothing
data_at t line hold content _ k = nothing

-- a delivery: what a home says of a line; all other messages leave a tile's lines alone
abbrev pub taken_at : Tile → Msg → ℕ → Happening
taken_at t (DataS line content delay) k = data_at t line S content t.core.status k
taken_at t (DataM line content delay) k = data_at t line M content t.core.status k
taken_at t (Inv line) k = at_line line k invalidated
taken_at t (Fetch line) k = at_line line k (fetched Read)
taken_at t (FetchInv line) k = at_line line k (fetched Write)
taken_at t _ k = nothing

abbrev pub delivered_at : Setup → Tile → ℕ → Msg → ℕ → Happening
delivered_at w t from msg k = if may_send w.config from t.number msg then taken_at t msg k else nothing

-- what a home's word about a line is at that line, by what the tile does and what it waits for of the line: data comes
-- where it is waited for so
abbrev pub takes : Want → Option Want → Bool
takes given None = false
takes given (Some Read) = true
takes Read (Some Write) = false
takes Write (Some Write) = true

abbrev pub hold_given : Want → Hold
hold_given Read = S
hold_given Write = M

-- what waits for a line, where something does: an access, or the next byte of a write
abbrev pub waiting : Status → Option Asked
waiting (Miss access) = access
waiting _ = None

abbrev pub heard : Status → Option Want → Down → Happening
heard status want (gives given content) = if takes given want then came (hold_given given) (data_after (waiting status) content) else nothing
heard status want drops = invalidated
heard status want (fetches other) = fetched other
