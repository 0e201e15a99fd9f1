-- What a file tells as a journal, or the first place where it is none. This simulator's own format.
use Rattle.std.specs.Prelude.{ℕ, ◌+◌, ◌*◌, ◌≡◌, ◌==◌, ◌||◌, nat_eq, nat_lt, if◌then◌else◌, List, [], ◌∷◌, length, take, drop, Option, Some, None, Result, Ok, Err}
use Rattle.std.specs.List.{common_prefix_len}
use Rattle.std.specs.Int.{w64, from_le_bytes}
use Rattle.event_journal.specs.declared.events.Event.{Event}
use Rattle.event_journal.specs.declared.events.Event.TheVariants.{Step, Deliver}
use Rattle.journal_file.specs.declared.refusal.JournalRefusal.{JournalRefusal}
use Rattle.journal_file.specs.declared.refusal.JournalRefusal.TheVariants.{TooLong, Byte, NoMemory}
use Rattle.journal_file.specs.File.{magic}

-- the first of the eight bytes that differs or is missing, counted from 0; 8 where none is
abbrev pub front_fault : List ℕ → ℕ
front_fault file = common_prefix_len nat_eq magic file

-- the number of events that a file of at least 16 bytes tells
abbrev pub told_count : List ℕ → ℕ
told_count file = from_le_bytes w64 (take 8 (drop 8 file))

-- how many bytes a file of so many events has
abbrev pub told_size : List ℕ → ℕ
told_size file = 16 + 2 * told_count file

-- the first place where a file isn't that of a journal: in the eight bytes; the file's end, where it ends too early; or
-- the end of the last event, where something follows
abbrev pub fault_place : List ℕ → Option ℕ
fault_place file =
    if nat_lt (front_fault file) 8 then Some (front_fault file)
    else (if nat_lt (length file) 16 || nat_lt (length file) (told_size file) then Some (length file)
    else (if nat_lt (told_size file) (length file) then Some (told_size file) else None))

-- the event of two bytes
abbrev pub event_of : ℕ → ℕ → Event
event_of node other = if other == 255 then Step node else Deliver other node

-- the events of bytes, two bytes an event
abbrev pub events_in : List ℕ → List Event
events_in [] = []
events_in (node ∷ []) = []
events_in (node ∷ (other ∷ rest)) = event_of node other ∷ events_in rest

-- the events of a file, or the place where it is none
abbrev pub told : List ℕ → Option ℕ → Result (List Event) JournalRefusal
told file (Some at) = Err (Byte at)
told file None = Ok (events_in (drop 16 file))

-- the journal that a file tells, or why it tells none: first its length, and then its bytes
abbrev pub reading : List ℕ → Result (List Event) JournalRefusal
reading file = if nat_lt 300000000 (length file) then Err TooLong else told file (fault_place file)

-- an answer tells what a file tells, or that memory ran out
abbrev pub Reads : Result (List Event) JournalRefusal → Result (List Event) JournalRefusal → Type 0
Reads (Ok events) held = held ≡ Ok events
Reads (Err TooLong) held = held ≡ Err TooLong
Reads (Err (Byte at)) held = held ≡ Err (Byte at)
Reads (Err NoMemory) held = Unit {0}
