-- What the words of a call and the files that they name come to, before anything is put or written. This simulator's own.
use Rattle.std.specs.Prelude.{◌≡◌, ◌⊎◌, ℕ, List, [], map, Result, Ok, Err}
use Rattle.event_journal.specs.declared.events.Event.{Event}
use Rattle.journal_file.specs.File.{journal_bytes}
use Rattle.sim_top.specs.declared.outcomes.FileToWrite.{FileToWrite}
use Rattle.sim_top.specs.declared.outcomes.Outcome.{Outcome}
use Rattle.sim_top.specs.Stage.{Reads, Stage}
use Rattle.sim_top.specs.Text.{fault_text}

-- the outcome, the journal that is returned, the text that is put, and the files that are written after it, in order
pub record Verdict : Type 0 where
  pub outcome : Outcome
  pub journal : List Event
  pub text : List ℕ
  pub files : List FileToWrite

-- nothing was run: no journal is returned, the text is the outcome's fault line, and no file is written
abbrev pub without_run : Outcome → Verdict
without_run outcome = record { outcome = outcome; journal = []; text = fault_text outcome; files = [] }

-- these bytes, to be written to each of these names
abbrev pub files_of : List (List ℕ) → List ℕ → List FileToWrite
files_of names bytes = map (λ name. record { name = name; bytes = bytes }) names

-- stages give this verdict; or they end the call by an outcome, without a run
abbrev pub ComesTo : Stage Verdict → Reads → Verdict → Type 0
ComesTo stage r v = stage r (Ok v) ⊎ ((outcome : Outcome) × stage r (Err outcome) × (v ≡ without_run outcome))
