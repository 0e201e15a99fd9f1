-- For the contracts of the code alone: how a journal keeps its events, those that stand many times noted once. This
-- simulator's own.
use Rattle.std.specs.Prelude.{ℕ, ◌+◌, ◌≡◌, ◌≤◌, ◌<◌, ◌&&◌, nat_lt, Bool, true, List, [], ◌∷◌, ◌++◌, length, take, drop}
use Rattle.std.specs.List.{repeat, list_all}
use Rattle.event_journal.specs.declared.blocks.Block.{Block}
use Rattle.event_journal.specs.declared.events.Event.{Event}
use Rattle.event_journal.specs.declared.reading.Place.{Place}
use Rattle.event_journal.specs.State.{is_empty}

-- how many of the noted events a block has
abbrev pub covered_of : Block → ℕ
covered_of block = block.once + block.size

-- how many of them blocks have
abbrev pub covered_by : List Block → ℕ
covered_by [] = 0
covered_by (block ∷ blocks) = covered_of block + covered_by blocks

-- the events that a block stands for, of those that are noted from its first one on
abbrev pub front : {A : Type 0} → Block → List A → List A
front block noted = take block.once noted ++ repeat block.times (take block.size (drop block.once noted))

-- the events that blocks and noted events stand for: those behind the blocks stand once
abbrev pub unrolled : {A : Type 0} → List Block → List A → List A
unrolled [] noted = noted
unrolled (block ∷ blocks) noted = front block noted ++ unrolled blocks (drop (covered_of block) noted)

-- a block has some event that stands many times, and it stands at least once
abbrev pub is_whole : Block → Bool
is_whole block = nat_lt 0 block.size && nat_lt 0 block.times

-- blocks and noted events are those of a journal of so many events
pub record IsJournal (blocks : List Block) (noted : List Event) (covered count : ℕ) : Type 0 where
  pub covered_is : covered ≡ covered_by blocks
  pub within : covered ≤ length noted
  pub whole : list_all is_whole blocks ≡ true
  pub count_is : count ≡ length (unrolled blocks noted)

-- the events that are left at a place
abbrev pub left : Place → List Event
left place = place.at_hand.now ++ (repeat place.times place.again.now ++ unrolled place.blocks.now place.noted.now)

-- what stands again has some event, and the blocks have only events that are noted
pub record IsPlace (place : Place) : Type 0 where
  pub some : 0 < place.times → 0 < length place.again.now
  pub within : covered_by place.blocks.now ≤ length place.noted.now
  pub whole : list_all is_whole place.blocks.now ≡ true

-- where no events are at hand, none are left
abbrev pub IsRefilled : Place → Type 0
IsRefilled place = is_empty place.at_hand.now ≡ true → left place ≡ []
