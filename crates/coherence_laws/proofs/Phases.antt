-- Where a node stands with a line: one phase tells all of its part of the line, and all that the home has of it.
use Rattle.std.proofs.Common.{◌≡◌, ℕ, Bool, true, false, List, [], ◌∷◌, ◌++◌, Some, None}
use Rattle.std.specs.Prelude.{Option, ◌==◌, if◌then◌else◌}
use Rattle.sim_base.specs.declared.lines.LineData.{LineData}
use Rattle.wire_msg.specs.declared.lines.Want.{Want}
use Rattle.wire_msg.specs.declared.lines.Want.TheVariants.{Read, Write}
use Rattle.wire_msg.specs.declared.lines.Up.{Up}
use Rattle.wire_msg.specs.declared.lines.Up.TheVariants.{Asks, GivesUp, Acknowledges, HandsOver}
use Rattle.wire_msg.specs.Message.{Down, gives, drops, fetches}
use Rattle.tile_cache.specs.Copy.{Copy, absent, shared, modified, held_as}
use Rattle.dir_slice.specs.Line.{Request, State, Uncached, Shared, Modified, BusyInv, BusyFetch}
use Rattle.node_set.specs.NodeSet.{has_node}
use Rattle.tile_node.specs.OneLine.{dropped_copy, left_for, hold_given}
use Rattle.coherence_laws.specs.Part.{Part}

-- a node's request for the line: there is none, it is on its way, or it is at the home
pub data Asking : Type 0 where
  quiet : Asking
  on_way : Want → Asking
  at_home : Want → Asking

-- what the home's state says of a node: nothing; it has the line to read; it waits until the others have dropped it; it is
-- to drop it; it has it to write, and is perhaps asked for it, for a reader or for a writer
pub data Standing : Type 0 where
  stranger : Standing
  sharer : Standing
  upgrader : Standing
  victim : Standing
  owner : Option Want → Standing

-- the phases. The first argument of most is a fetch that came too late and stands in front of all else on its way to the
-- node; a Bool tells whether a copy to read is there
pub data Phase : Type 0 where
  away : Option Want → Asking → Phase  -- it has nothing of the line
  shares : Option Want → Bool → Asking → Phase  -- a sharer
  reads : Option Want → Bool → Phase  -- a sharer, and the line is on its way
  upgrades : Option Want → Bool → Phase  -- it waits until the others have dropped the line
  loses : Option Want → Bool → Asking → Phase  -- the word to drop the line is on its way
  reads_loses : Option Want → Bool → Phase  -- the line is on its way, and then that word
  dropped : Option Want → Asking → Phase  -- its acknowledgement is on its way, and perhaps a request
  dropped_late : Option Want → Want → Phase  -- a request is on its way, and then its acknowledgement
  writes : Option Want → Bool → Option Want → Phase  -- the line is on its way to be written, and perhaps a fetch
  owns : Option Want → Phase  -- it has the line to write, and perhaps a fetch is on its way
  puts : Option Want → Phase  -- the line is on its way home, and perhaps a request
  puts_fetched : Want → Option Want → Option Want → Phase  -- the same while the home waits for an answer to a fetch
  answers_shared : Bool → Option Want → Phase  -- its answer to a fetch for a reader is on its way
  answers_gone : Option Want → Phase  -- its answer to a fetch for a writer is on its way

-- requests

abbrev pub asking_home : Asking → List Want
asking_home quiet = []
asking_home (on_way w) = []
asking_home (at_home w) = w ∷ []

abbrev pub asking_want : Asking → Option Want
asking_want quiet = None
asking_want (on_way w) = Some w
asking_want (at_home w) = Some w

abbrev pub asking_up : Asking → List Up
asking_up quiet = []
asking_up (on_way w) = Asks w ∷ []
asking_up (at_home w) = []

-- a request behind what a node has sent, and a fetch behind what it is sent
abbrev pub behind : Option Want → List Up
behind None = []
behind (Some w) = Asks w ∷ []

abbrev pub fetch_there : Option Want → List Down
fetch_there None = []
fetch_there (Some w) = fetches w ∷ []

abbrev pub copy_there : LineData → Bool → Copy
copy_there v true = shared v
copy_there v false = absent

-- what a phase tells: what the home's state says of the node; its requests that the home has

abbrev pub standing_of : Phase → Standing
standing_of (away st q) = stranger
standing_of (shares st h q) = sharer
standing_of (reads st h) = sharer
standing_of (upgrades st h) = upgrader
standing_of (loses st h q) = victim
standing_of (reads_loses st h) = victim
standing_of (dropped st q) = victim
standing_of (dropped_late st w) = victim
standing_of (writes st h f) = owner f
standing_of (owns f) = owner f
standing_of (puts q) = owner None
standing_of (puts_fetched f there q) = owner (Some f)
standing_of (answers_shared h q) = owner (Some Read)
standing_of (answers_gone q) = owner (Some Write)

abbrev pub requests_of : Phase → List Want
requests_of (away st q) = asking_home q
requests_of (shares st h q) = asking_home q
requests_of (reads st h) = []
requests_of (upgrades st h) = Write ∷ []
requests_of (loses st h q) = asking_home q
requests_of (reads_loses st h) = []
requests_of (dropped st q) = asking_home q
requests_of (dropped_late st w) = []
requests_of (writes st h f) = []
requests_of (owns f) = []
requests_of (puts q) = []
requests_of (puts_fetched f there q) = []
requests_of (answers_shared h q) = []
requests_of (answers_gone q) = []

-- the node's part of the line, where the line's value is v

abbrev pub phase_copy : LineData → Phase → Copy
phase_copy v (away st q) = absent
phase_copy v (shares st h q) = copy_there v h
phase_copy v (reads st h) = copy_there v h
phase_copy v (upgrades st h) = copy_there v h
phase_copy v (loses st h q) = copy_there v h
phase_copy v (reads_loses st h) = copy_there v h
phase_copy v (dropped st q) = absent
phase_copy v (dropped_late st w) = absent
phase_copy v (writes st h f) = copy_there v h
phase_copy v (owns f) = modified v
phase_copy v (puts q) = absent
phase_copy v (puts_fetched f there q) = absent
phase_copy v (answers_shared h q) = copy_there v h
phase_copy v (answers_gone q) = absent

abbrev pub phase_want : Phase → Option Want
phase_want (away st q) = asking_want q
phase_want (shares st h q) = asking_want q
phase_want (reads st h) = Some Read
phase_want (upgrades st h) = Some Write
phase_want (loses st h q) = asking_want q
phase_want (reads_loses st h) = Some Read
phase_want (dropped st q) = asking_want q
phase_want (dropped_late st w) = Some w
phase_want (writes st h f) = Some Write
phase_want (owns f) = None
phase_want (puts q) = q
phase_want (puts_fetched f there q) = q
phase_want (answers_shared h q) = q
phase_want (answers_gone q) = q

abbrev pub phase_up : LineData → Phase → List Up
phase_up v (away st q) = asking_up q
phase_up v (shares st h q) = asking_up q
phase_up v (reads st h) = []
phase_up v (upgrades st h) = []
phase_up v (loses st h q) = asking_up q
phase_up v (reads_loses st h) = []
phase_up v (dropped st q) = Acknowledges ∷ asking_up q
phase_up v (dropped_late st w) = Asks w ∷ Acknowledges ∷ []
phase_up v (writes st h f) = []
phase_up v (owns f) = []
phase_up v (puts q) = GivesUp v ∷ behind q
phase_up v (puts_fetched f there q) = GivesUp v ∷ behind q
phase_up v (answers_shared h q) = HandsOver v ∷ behind q
phase_up v (answers_gone q) = HandsOver v ∷ behind q

abbrev pub phase_down : LineData → Phase → List Down
phase_down v (away st q) = fetch_there st
phase_down v (shares st h q) = fetch_there st
phase_down v (reads st h) = fetch_there st ++ gives Read v ∷ []
phase_down v (upgrades st h) = fetch_there st
phase_down v (loses st h q) = fetch_there st ++ drops ∷ []
phase_down v (reads_loses st h) = fetch_there st ++ gives Read v ∷ drops ∷ []
phase_down v (dropped st q) = fetch_there st
phase_down v (dropped_late st w) = fetch_there st
phase_down v (writes st h f) = fetch_there st ++ gives Write v ∷ fetch_there f
phase_down v (owns f) = fetch_there f
phase_down v (puts q) = []
phase_down v (puts_fetched f there q) = fetch_there there
phase_down v (answers_shared h q) = []
phase_down v (answers_gone q) = []

abbrev pub part_in : LineData → Phase → Part
part_in v p = record { copy = phase_copy v p; want = phase_want p; up = phase_up v p; down = phase_down v p }

-- what the home's state says of a node, and the requests of the node that it has: the one that it works on, and those
-- that wait

abbrev pub standing : State → ℕ → Standing
standing Uncached y = stranger
standing (Shared sharers) y = if has_node y sharers then sharer else stranger
standing (Modified o) y = if o == y then owner None else stranger
standing (BusyInv r left) y = if r == y then upgrader else (if has_node y left then victim else stranger)
standing (BusyFetch w r o) y = if o == y then owner (Some w) else stranger

abbrev pub served : State → ℕ → List Want
served Uncached y = []
served (Shared sharers) y = []
served (Modified o) y = []
served (BusyInv r left) y = if r == y then Write ∷ [] else []
served (BusyFetch w r o) y = if r == y then w ∷ [] else []

abbrev pub waits : ℕ → List Request → List Want
waits y [] = []
waits y (q ∷ rest) = if q.from == y then q.want ∷ waits y rest else waits y rest

-- a node fits what the home has of the line
pub record Fits (state : State) (waiting : List Request) (v : LineData) (y : ℕ) (p : Part) : Type 0 where
  pub phase : Phase
  pub standing_is : standing state y ≡ standing_of phase
  pub requests_are : served state y ++ waits y waiting ≡ requests_of phase
  pub part_is : p ≡ part_in v phase

-- a node comes into a phase, where the home's state says this of it, with these requests of it at the home
pub record Comes (v : LineData) (says : Standing) (requests : List Want) (p : Part) : Type 0 where
  pub phase : Phase
  pub standing_is : says ≡ standing_of phase
  pub requests_are : requests ≡ requests_of phase
  pub part_is : p ≡ part_in v phase

pub into : {v : LineData} {says : Standing} {requests : List Want} {p : Part} (phase : Phase) → says ≡ standing_of phase → requests ≡ requests_of phase → p ≡ part_in v phase → Comes v says requests p
into phase a b c = record { phase = phase; standing_is = a; requests_are = b; part_is = c }

-- a part that changes in what is on its way

abbrev pub with_up : Part → List Up → Part
with_up p us = record { copy = p.copy; want = p.want; up = us; down = p.down }

abbrev pub with_down : Part → List Down → Part
with_down p ds = record { copy = p.copy; want = p.want; up = p.up; down = ds }

abbrev pub sent : Part → List Down → Part
sent p ds = record { copy = p.copy; want = p.want; up = p.up; down = p.down ++ ds }

-- a part that changes by what the node does: it asks; its copy is dropped for the home; it takes the line; it answers a
-- fetch, if it has the line to write; its copy makes room

abbrev pub asked_for : Want → Part → Part
asked_for w p = record { copy = p.copy; want = Some w; up = p.up ++ Asks w ∷ []; down = p.down }

abbrev pub with_dropped : Part → List Down → Part
with_dropped p ds = record { copy = dropped_copy p.copy; want = p.want; up = p.up ++ Acknowledges ∷ []; down = ds }

abbrev pub with_line : Want → LineData → Part → List Down → Part
with_line w d p ds = record { copy = held_as (hold_given w) d; want = None; up = p.up; down = ds }

abbrev pub with_fetch : Want → Copy → Part → List Down → Part
with_fetch w absent p ds = with_down p ds
with_fetch w (shared d) p ds = with_down p ds
with_fetch w (modified d) p ds = record { copy = left_for w d; want = p.want; up = p.up ++ HandsOver d ∷ []; down = ds }

abbrev pub without_copy : Copy → Part → Part
without_copy absent p = p
without_copy (shared d) p = record { copy = absent; want = p.want; up = p.up; down = p.down }
without_copy (modified d) p = record { copy = absent; want = p.want; up = p.up ++ GivesUp d ∷ []; down = p.down }
