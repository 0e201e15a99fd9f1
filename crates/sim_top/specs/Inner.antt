-- For the contracts of the code alone: no clause of a public function needs this. What the code's parts answer.
use Rattle.std.specs.Prelude.{◌≡◌, ◌⊎◌, ◌<◌, ℕ, List, [], ◌∷◌, length, take, Option, Some, None, Result, Ok, Err, true, is_some, ◌||◌}
use Rattle.sim_base.specs.declared.kinds.Kind.{Kind}
use Rattle.sim_outside.specs.Fault.{RisesOnce}
use Rattle.sim_outside.specs.Told.{Holds}
use Rattle.sim_outside.specs.declared.writing.WriteAnswer.{WriteAnswer}
use Rattle.sim_outside.specs.declared.writing.WriteAnswer.TheVariants.{Failed, NoMemory as NoWriteMemory}
use Rattle.event_journal.specs.declared.events.Event.{Event}
use Rattle.elf_image.specs.Image.{Program}
use Rattle.elf_image.specs.File.{file_of}
use Rattle.elf_image.specs.Layout.{Setup}
use Rattle.node_machine.specs.declared.cores.Ran.{Ran}
use Rattle.seq_driver.specs.Driven.{IsRan, IsDrawn}
use Rattle.sim_config.specs.declared.request.Request.{Request}
use Rattle.sim_config.specs.Request.{image_name, workload_of}
use Rattle.sim_top.specs.declared.outcomes.Decision.{Decision}
use Rattle.sim_top.specs.declared.outcomes.FileToWrite.{FileToWrite}
use Rattle.sim_top.specs.declared.outcomes.Halt.{Halt}
use Rattle.sim_top.specs.declared.outcomes.Halt.TheVariants.{Refused, NoMemory}
use Rattle.sim_top.specs.declared.outcomes.Outcome.{Outcome}
use Rattle.sim_top.specs.declared.outcomes.Outcome.TheVariants.{ReadFault, Written, WriteFault, NoMemory as OutOfMemory}
use Rattle.workload_gen.specs.Workload.{IsWorkload}
use Rattle.stats_report.specs.Report.{core_text}
use Rattle.sim_top.specs.Stage.{Reads, ReadsWell, Stage}
use Rattle.sim_top.specs.Verdict.{Verdict, without_run, files_of}
use Rattle.sim_top.specs.Runs.{outcome_of, WritesJournal, GetsStuck, RefusesEvents}
use Rattle.sim_top.specs.Answer.{Writes, HasWritten, HasFailed}

-- the code's answer is that of a stage, or memory ran out
abbrev pub Tells : {A : Type 0} → Stage A → Reads → Result A Halt → Type 0
Tells stage r (Ok a) = stage r (Ok a)
Tells stage r (Err (Refused outcome)) = stage r (Err outcome)
Tells stage r (Err NoMemory) = Unit {0}

-- a verdict in the code's own form
abbrev pub decided : Decision → Verdict
decided d = record { outcome = d.outcome; journal = d.journal; text = d.text; files = d.files.items }

abbrev pub each_decided : Result Decision Halt → Result Verdict Halt
each_decided (Ok d) = Ok (decided d)
each_decided (Err halt) = Err halt

abbrev pub TellsVerdict : Stage Verdict → Reads → Result Decision Halt → Type 0
TellsVerdict stage r answer = Tells stage r (each_decided answer)

-- one file: the whole of it was read; or reading it failed; or it is longer than the limit, and refused so
abbrev pub ReadsFile : Reads → List ℕ → ℕ → Outcome → Result (List ℕ) Halt → Type 0
ReadsFile r name limit too_long (Ok bytes) = ReadsWell r × Holds r.holds name bytes
ReadsFile r name limit too_long (Err (Refused outcome)) =
    ((outcome ≡ ReadFault) × RisesOnce r.before r.after name)
    ⊎ ((outcome ≡ too_long) × ReadsWell r × (file : List ℕ) × Holds r.holds name file × (limit < length file))
ReadsFile r name limit too_long (Err NoMemory) = Unit {0}

-- an image is read or made for this request
abbrev pub HasImage : Request → Type 0
HasImage request = (is_some (image_name request) || is_some (workload_of request)) ≡ true

-- what drawing a run and following a journal come to
abbrev pub Draws : Setup → Result Ran Halt → Type 0
Draws w (Ok ran) = IsRan w ran × IsDrawn w ran.journal
Draws w (Err (Refused outcome)) = GetsStuck w outcome
Draws w (Err NoMemory) = Unit {0}

abbrev pub Follows : Setup → List Event → Result Ran Halt → Type 0
Follows w events (Ok ran) = IsRan w ran × (ran.journal ≡ events)
Follows w events (Err (Refused outcome)) = RefusesEvents w events outcome
Follows w events (Err NoMemory) = Unit {0}

-- what a run comes to, its journal written to these names
pub record IsOfRun (names : List (List ℕ)) (ran : Ran) (d : Decision) : Type 0 where
  pub outcome : d.outcome ≡ outcome_of ran.end
  pub journal : d.journal ≡ ran.journal
  pub text : d.text ≡ core_text ran.core ran.end
  pub files : WritesJournal names (decided d)

-- the file of a workload, to be written to this name
pub record IsOfWorkload (kind : Kind) (seed : ℕ) (name : List ℕ) (d : Decision) : Type 0 where
  pub program : Program
  pub workload : IsWorkload kind seed program
  pub is : decided d ≡ record (without_run Written) { files = files_of (name ∷ []) (file_of program) }

-- what writing files, in order, comes to
abbrev pub WritesAll : Result (Unit {0}) WriteAnswer → Writes → List FileToWrite → Type 0
WritesAll (Ok _) w files = HasWritten w files
WritesAll (Err Failed) w files = HasFailed w files
WritesAll (Err NoWriteMemory) w files = (count : ℕ) × (count < length files) × HasWritten w (take count files)

-- what storing a decision comes to: its files are written and it is answered; or writing one failed; or memory ran out
abbrev pub Stores : Decision → Outcome → List Event → Writes → Type 0
Stores d outcome journal w =
    ((outcome ≡ d.outcome) × (journal ≡ d.journal) × HasWritten w d.files.items)
    ⊎ ((outcome ≡ WriteFault) × (journal ≡ d.journal) × HasFailed w d.files.items)
    ⊎ ((outcome ≡ OutOfMemory) × (journal ≡ []) × (count : ℕ) × (count < length d.files.items) × HasWritten w (take count d.files.items))
