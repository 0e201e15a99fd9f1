-- The file of a journal, version 1: the eight bytes `TILEJNL1`, the number of events as 8 bytes, the least significant
-- first, and then two bytes for each event. Nothing follows. This simulator's own format.
use Rattle.std.specs.Prelude.{ℕ, ◌<◌, ◌≤◌, ◌≡◌, List, [], ◌∷◌, ◌++◌, length, codes, All}
use Rattle.std.specs.List.{flat_map}
use Rattle.std.specs.Int.{w64, to_le_bytes}
use Rattle.event_journal.specs.declared.events.Event.{Event}
use Rattle.event_journal.specs.declared.events.Event.TheVariants.{Step, Deliver}

-- the eight bytes that each file begins with
abbrev pub magic : List ℕ
magic = codes "TILEJNL1"

-- the bytes of an event: the acting node, and then 255 for a step, or the sender of the message that it takes
abbrev pub event_bytes : Event → List ℕ
event_bytes (Step node) = node ∷ 255 ∷ []
event_bytes (Deliver from node) = node ∷ from ∷ []

-- the file of a list of events
abbrev pub journal_bytes : List Event → List ℕ
journal_bytes events = magic ++ (to_le_bytes w64 (length events) ++ flat_map event_bytes events)

-- no sender is 255, which would read as a step
abbrev pub HasSenderBelow255 : Event → Type 0
HasSenderBelow255 (Step node) = Unit {0}
HasSenderBelow255 (Deliver from node) = from < 255

-- a file that is taken as that of a journal: it has at most 300,000,000 bytes and is the journal's, no sender being 255
pub record IsFileOf (events : List Event) (file : List ℕ) : Type 0 where
  pub not_long : length file ≤ 300000000
  pub bytes : file ≡ journal_bytes events
  pub senders : All HasSenderBelow255 events
