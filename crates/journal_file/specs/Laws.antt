-- Laws of the journal's file.
use Rattle.std.specs.Prelude.{ℕ, ◌<◌, ◌≡◌, List, All, Ok}
use Rattle.event_journal.specs.declared.events.Event.{Event}
use Rattle.journal_file.specs.File.{journal_bytes, HasSenderBelow255, IsFileOf}
use Rattle.journal_file.specs.Reading.{reading}

-- the file of a journal reads as that journal
abbrev pub WrittenIsRead : Type 0
WrittenIsRead = (events : List Event) (file : List ℕ) → IsFileOf events file → reading file ≡ Ok events

-- what a file reads as is a journal whose file it is
abbrev pub ReadIsWritten : Type 0
ReadIsWritten =
    (events : List Event) (file : List ℕ)
    → All (λ byte. byte < 256) file → reading file ≡ Ok events → IsFileOf events file

-- two journals with one file are one journal
abbrev pub HasOneReading : Type 0
HasOneReading =
    (a b : List Event)
    → All HasSenderBelow255 a → All HasSenderBelow255 b → journal_bytes a ≡ journal_bytes b → a ≡ b
