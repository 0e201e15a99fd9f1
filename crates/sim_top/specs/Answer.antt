-- What a call of the simulator answers: the verdict of its words and files is put on a stream, and its files are written.
use Rattle.std.specs.Prelude.{◌≡◌, ◌⊎◌, ◌<◌, ℕ, List, [], ◌∷◌, length, take, slice_get, Option, Some, None}
use Rattle.sim_outside.specs.Fault.{Rose}
use Rattle.sim_outside.specs.Told.{Contents, Took, HoldsAllBut, with_file}
use Rattle.event_journal.specs.declared.events.Event.{Event}
use Rattle.sim_top.specs.declared.outcomes.FileToWrite.{FileToWrite}
use Rattle.sim_top.specs.declared.outcomes.Outcome.{Outcome}
use Rattle.sim_top.specs.declared.outcomes.Outcome.TheVariants.{WriteFault, NoMemory}
use Rattle.sim_top.specs.Commands.{Decides}
use Rattle.sim_top.specs.Stage.{Reads}
use Rattle.sim_top.specs.Verdict.{Verdict}

-- the stream that is put on: its faults before the call and now, and the bytes it took where this is told
pub record Stream : Type 0 where
  pub faults_before : ℕ
  pub faults_now : ℕ
  pub taken_before : Option (List ℕ)
  pub taken_now : Option (List ℕ)

-- the files that are written: what the names held and hold where this is told, and each name's faults of writing before the
-- call and now
pub record Writes : Type 0 where
  pub held : Contents
  pub holds : Contents
  pub before : List ℕ → ℕ
  pub now : List ℕ → ℕ

abbrev pub stream : ℕ → ℕ → Option (List ℕ) → Option (List ℕ) → Stream
stream faults_before faults_now taken_before taken_now =
    record { faults_before = faults_before; faults_now = faults_now; taken_before = taken_before; taken_now = taken_now }

abbrev pub writes : Contents → Contents → (List ℕ → ℕ) → (List ℕ → ℕ) → Writes
writes held holds before now = record { held = held; holds = holds; before = before; now = now }

-- the stream took this without a fault
pub record IsPut (s : Stream) (text : List ℕ) : Type 0 where
  pub took : Took s.taken_before s.taken_now text
  pub no_fault : s.faults_now ≡ s.faults_before

-- the stream took a front of this, and had one more fault
pub record IsPutInPart (s : Stream) (text : List ℕ) : Type 0 where
  pub len : ℕ
  pub took : Took s.taken_before s.taken_now (take len text)
  pub rose : Rose s.faults_before s.faults_now

-- contents after files were written, in order
abbrev pub with_files : (List ℕ → Option (List ℕ)) → List FileToWrite → List ℕ → Option (List ℕ)
with_files held [] = held
with_files held (file ∷ files) = with_files (with_file held file.name file.bytes) files

abbrev pub written : Contents → List FileToWrite → Contents
written None files = None
written (Some held) files = Some (with_files held files)

-- these files were written, in order, without a fault, and nothing else
pub record HasWritten (w : Writes) (files : List FileToWrite) : Type 0 where
  pub wrote : w.holds ≡ written w.held files
  pub no_fault : w.now ≡ w.before

-- the first of these files were written; the next one's name had one more fault of writing, and holds unknown bytes
pub record HasFailed (w : Writes) (files : List FileToWrite) : Type 0 where
  pub count : ℕ
  pub file : FileToWrite
  pub next : slice_get files count ≡ Some file
  pub others : HoldsAllBut (written w.held (take count files)) w.holds file.name
  pub rose : Rose (w.before file.name) (w.now file.name)

-- nothing was put, and no file was written
pub record IsUntouched (s : Stream) (w : Writes) : Type 0 where
  pub taken : s.taken_now ≡ s.taken_before
  pub no_fault : s.faults_now ≡ s.faults_before
  pub files : HasWritten w []

-- a verdict's text was put, and the first of its files were written, but not all
pub record IsCutOff (s : Stream) (w : Writes) (v : Verdict) : Type 0 where
  pub text : IsPut s v.text
  pub count : ℕ
  pub fewer : count < length v.files
  pub files : HasWritten w (take count v.files)

-- the words and the files that are read give a verdict. Its outcome and its journal are returned, its text was put, and its
-- files were written; or the stream failed, or a file; or memory ran out, which is free, before anything was put or in writing
abbrev pub Answers : List (List ℕ) → Reads → Stream → Writes → Outcome → List Event → Type 0
Answers words r s w NoMemory journal =
    (journal ≡ []) × (IsUntouched s w ⊎ ((v : Verdict) × Decides words r v × IsCutOff s w v))
Answers words r s w WriteFault journal =
    (v : Verdict) × Decides words r v × (v.journal ≡ journal)
    × ((IsPutInPart s v.text × HasWritten w []) ⊎ (IsPut s v.text × HasFailed w v.files))
Answers words r s w outcome journal =
    (v : Verdict) × Decides words r v × (v.outcome ≡ outcome) × (v.journal ≡ journal) × IsPut s v.text × HasWritten w v.files
