-- Where each outcome comes, of the words and the files that they name. This simulator's own.
use Rattle.std.specs.Prelude.{◌≡◌, ◌⊎◌, ◌↔◌, ◌<◌, ℕ, List, [], Option, Some, None, Ok, Err}
use Rattle.std.specs.List.{Contains}
use Rattle.sim_base.specs.declared.ends.End.{End}
use Rattle.sim_base.specs.declared.ends.End.TheVariants.{Exit, Trap as TrapEnd, Deadlock as DeadlockEnd, Budget as BudgetEnd}
use Rattle.sim_base.specs.declared.settings.Config.{Config}
use Rattle.sim_base.specs.declared.settings.Field.{Field}
use Rattle.sim_outside.specs.Fault.{Rose, RisesOnce, raised}
use Rattle.elf_image.specs.declared.refusal.ImageFault.{ImageFault}
use Rattle.elf_image.specs.Layout.{Setup}
use Rattle.event_journal.specs.declared.events.Event.{Event}
use Rattle.node_machine.specs.End.{end_of}
use Rattle.seq_driver.specs.Driven.{state_after, IsJournal, IsDrawn, IsStuck}
use Rattle.sim_config.specs.declared.request.Request.{Request}
use Rattle.sim_config.specs.Request.{config_name, image_name, replayed_name, workload_name, written_names}
use Rattle.sim_config.specs.Request.{meaning}
use Rattle.sim_top.specs.declared.outcomes.JournalFault.{JournalFault}
use Rattle.sim_top.specs.declared.outcomes.Outcome.{Outcome}
use Rattle.sim_top.specs.declared.outcomes.Outcome.TheVariants.{Done, Written, Trap, Deadlock, Budget, Stuck, Usage, BadConfig, BadImage, BadJournal, ReadFault, WriteFault, NoMemory}
use Rattle.sim_top.specs.Stage.{Reads}
use Rattle.sim_top.specs.Verdict.{Verdict}
use Rattle.sim_top.specs.Asked.{settings, machine, replayed}
use Rattle.sim_top.specs.Runs.{outcome_of, IsNoRun, StaysCoherent}
use Rattle.sim_top.specs.Commands.{Decides}
use Rattle.sim_top.specs.Answer.{Stream, Writes, Answers}

-- the same readings, without a fault
abbrev pub faultless : Reads → Reads
faultless r = record r { after = r.before }

-- it is told what files hold, and of no name the count of faults of reading rose or stands at its last value
pub record IsToldWell (r : Reads) : Type 0 where
  pub held : List ℕ → Option (List ℕ)
  pub told : r.holds ≡ Some held
  pub no_fault : (name : List ℕ) → r.after name < raised (r.before name)

-- the words mean a request of which this holds
abbrev pub Means : List (List ℕ) → (Request → Type 0) → Type 0
Means words Holds = (request : Request) × (meaning words ≡ Some request) × Holds request

-- a request reads the file of this name, what is read before it being accepted: the settings, the image, the journal
abbrev pub IsRead : Reads → Request → List ℕ → Type 0
IsRead r request name =
    (config_name request ≡ Some name)
    ⊎ (((config : Config) × settings request (faultless r) (Ok config)) × (image_name request ≡ Some name))
    ⊎ (((w : Setup) × machine request (faultless r) (Ok w)) × (replayed_name request ≡ Some name))

-- a request is of a run that its seed draws
abbrev pub DrawsRun : Request → Type 0
DrawsRun request = (workload_name request ≡ None) × (replayed_name request ≡ None)

-- the journal of the run that a request asks for: the one that the seed draws, or the one of the journal's file
abbrev pub IsAsked : Reads → Request → Setup → List Event → Type 0
IsAsked r request w journal = (DrawsRun request × IsDrawn w journal) ⊎ replayed request (faultless r) (Ok journal)

-- the journal's file is refused, or what it tells is no whole run of the machine
abbrev pub RefusesJournal : Reads → Request → JournalFault → Type 0
RefusesJournal r request fault =
    (w : Setup) × machine request (faultless r) (Ok w)
    × (replayed request (faultless r) (Err (BadJournal fault)) ⊎ ((events : List Event) × replayed request (faultless r) (Ok events) × IsNoRun w events fault))

-- the machine's run that is asked for gets stuck
abbrev pub StopsStuck : Reads → Request → Type 0
StopsStuck r request = (w : Setup) × machine request (faultless r) (Ok w) × DrawsRun request × (events : List Event) × IsStuck w events

-- a machine is accepted, and this is the journal of its run that is asked for, up to a state that has this end
pub record EndsSo (r : Reads) (request : Request) (journal : List Event) (end : End) : Type 0 where
  pub w : Setup
  pub accepted : machine request (faultless r) (Ok w)
  pub asked : IsAsked r request w journal
  pub run : IsJournal w journal
  pub ended : end_of w (state_after w journal) ≡ Some end

-- why a request has an outcome, the journal being this: its cause in the files that it names, but for those of the outcomes
-- that no request comes to
abbrev pub Because : Reads → Request → List Event → Outcome → Type 0
Because r request journal (Done code) = EndsSo r request journal (Exit code)
Because r request journal (Trap thread cause pc) = EndsSo r request journal (TrapEnd thread cause pc)
Because r request journal Deadlock = EndsSo r request journal DeadlockEnd
Because r request journal Budget = EndsSo r request journal BudgetEnd
Because r request journal Written = (name : List ℕ) × (workload_name request ≡ Some name)
Because r request journal ReadFault = (name : List ℕ) × IsRead r request name × RisesOnce r.before r.after name
Because r request journal (BadConfig field) = settings request (faultless r) (Err (BadConfig field))
Because r request journal (BadImage fault) = machine request (faultless r) (Err (BadImage fault))
Because r request journal (BadJournal fault) = RefusesJournal r request fault
Because r request journal Stuck = StopsStuck r request
Because r request journal _ = ⊥

-- why a call has an outcome: the words mean nothing; or the stream, or a name that the words give for writing, had one more
-- fault; or the cause is in the files that the words name. Want of memory is free
abbrev pub HasCause : List (List ℕ) → Reads → Stream → Writes → Outcome → List Event → Type 0
HasCause words r s w Usage journal = meaning words ≡ None
HasCause words r s w WriteFault journal =
    Rose s.faults_before s.faults_now ⊎ Means words (λ request. (name : List ℕ) × Contains (written_names request) name × Rose (w.before name) (w.now name))
HasCause words r s w NoMemory journal = Unit {0}
HasCause words r s w outcome journal = Means words (λ request. Because r request journal outcome)

-- a journal that is returned is a run of the machine of the accepted settings and image, and each line stays coherent along it;
-- or it is empty
abbrev pub IsCoherentRun : List (List ℕ) → Reads → List Event → Type 0
IsCoherentRun words r journal =
    (journal ≡ []) ⊎ Means words (λ request. (w : Setup) × machine request (faultless r) (Ok w) × IsJournal w journal × StaysCoherent w journal)

-- of told files, without a fault, words come to one verdict
abbrev pub OneVerdict : Type 0
OneVerdict = (words : List (List ℕ)) (r : Reads) (v u : Verdict) → IsToldWell r → Decides words r v → Decides words r u → v ≡ u

-- Usage: exactly where the words mean nothing
abbrev pub UsageIsExact : Type 0
UsageIsExact = (words : List (List ℕ)) (r : Reads) (v : Verdict) → Decides words r v → (v.outcome ≡ Usage) ↔ (meaning words ≡ None)

-- ReadFault: only where a file that is read had one more fault of reading
abbrev pub ReadFaultHasCause : Type 0
ReadFaultHasCause = (words : List (List ℕ)) (r : Reads) (v : Verdict) → Decides words r v → v.outcome ≡ ReadFault
    → Means words (λ request. (name : List ℕ) × IsRead r request name × RisesOnce r.before r.after name)

-- and wherever it is told that a file that is read isn't there
abbrev pub AbsentIsReadFault : Type 0
AbsentIsReadFault = (words : List (List ℕ)) (r : Reads) (v : Verdict) (held : List ℕ → Option (List ℕ)) (request : Request) (absent : List ℕ)
    → r.holds ≡ Some held → meaning words ≡ Some request → IsRead r request absent → held absent ≡ None → Decides words r v → v.outcome ≡ ReadFault

-- BadConfig: exactly where the settings are refused so
abbrev pub BadConfigIsExact : Type 0
BadConfigIsExact = (words : List (List ℕ)) (r : Reads) (v : Verdict) (field : Field) → IsToldWell r → Decides words r v
    → (v.outcome ≡ BadConfig field) ↔ Means words (λ request. settings request (faultless r) (Err (BadConfig field)))

-- BadImage: exactly where the settings are accepted and the image is refused so
abbrev pub BadImageIsExact : Type 0
BadImageIsExact = (words : List (List ℕ)) (r : Reads) (v : Verdict) (fault : ImageFault) → IsToldWell r → Decides words r v
    → (v.outcome ≡ BadImage fault) ↔ Means words (λ request. machine request (faultless r) (Err (BadImage fault)))

-- BadJournal: exactly where the machine is accepted and the journal is refused so
abbrev pub BadJournalIsExact : Type 0
BadJournalIsExact = (words : List (List ℕ)) (r : Reads) (v : Verdict) (fault : JournalFault) → IsToldWell r → Decides words r v
    → (v.outcome ≡ BadJournal fault) ↔ Means words (λ request. RefusesJournal r request fault)

-- Stuck: exactly where the run that the seed draws gets stuck
abbrev pub StuckIsExact : Type 0
StuckIsExact = (words : List (List ℕ)) (r : Reads) (v : Verdict) → IsToldWell r → Decides words r v
    → (v.outcome ≡ Stuck) ↔ Means words (λ request. StopsStuck r request)

-- Done, Trap, Deadlock and Budget: exactly where the run that is asked for has this end
abbrev pub EndIsExact : Type 0
EndIsExact = (words : List (List ℕ)) (r : Reads) (v : Verdict) (end : End) → IsToldWell r → Decides words r v
    → (v.outcome ≡ outcome_of end) ↔ Means words (λ request. EndsSo r request v.journal end)

-- Written: exactly where a workload is to be written
abbrev pub WrittenIsExact : Type 0
WrittenIsExact = (words : List (List ℕ)) (r : Reads) (v : Verdict) → Decides words r v
    → (v.outcome ≡ Written) ↔ Means words (λ request. (name : List ℕ) × (workload_name request ≡ Some name))

-- WriteFault: only where the stream, or a name that the words give for writing, had one more fault
abbrev pub WriteFaultHasCause : Type 0
WriteFaultHasCause = (words : List (List ℕ)) (r : Reads) (s : Stream) (w : Writes) (journal : List Event) → Answers words r s w WriteFault journal
    → Rose s.faults_before s.faults_now ⊎ Means words (λ request. (name : List ℕ) × Contains (written_names request) name × Rose (w.before name) (w.now name))

-- what words ask for is accepted: it is a workload's file; or it is a run, whose machine is accepted, and for a replay the
-- journal, which is a whole run up to an end
abbrev pub IsAccepted : Reads → Request → Type 0
IsAccepted r request =
    ((name : List ℕ) × (workload_name request ≡ Some name))
    ⊎ ((w : Setup) × machine request (faultless r) (Ok w) × DrawsRun request)
    ⊎ ((journal : List Event) × (end : End) × EndsSo r request journal end)

-- the answer to what is accepted: an end, as the journal's state has it, or a file written; or a stuck run; or memory ran out
abbrev pub IsCompleted : Reads → Request → Outcome → List Event → Type 0
IsCompleted r request NoMemory journal = Unit {0}
IsCompleted r request Stuck journal = StopsStuck r request
IsCompleted r request Written journal = (name : List ℕ) × (workload_name request ≡ Some name)
IsCompleted r request outcome journal = (end : End) × (outcome ≡ outcome_of end) × EndsSo r request journal end

-- of told files, where nothing fails to be read, put or written, what is accepted is completed
abbrev pub Complete : Type 0
Complete = (words : List (List ℕ)) (r : Reads) (s : Stream) (w : Writes) (outcome : Outcome) (journal : List Event) (request : Request)
    → IsToldWell r → s.faults_now < raised s.faults_before → ((name : List ℕ) → w.now name < raised (w.before name))
    → meaning words ≡ Some request → IsAccepted r request → Answers words r s w outcome journal → IsCompleted r request outcome journal
