-- What an answer says of its parts, each by itself: what was printed, which names were written, what failed.
use Rattle.std.specs.Prelude.{◌≡◌, ℕ, List, [], Option, Some, Ok}
use Rattle.std.specs.List.{Contains}
use Rattle.sim_base.specs.declared.ends.End.{End}
use Rattle.sim_base.specs.declared.ends.End.TheVariants.{Exit, Trap as TrapEnd, Deadlock as DeadlockEnd, Budget as BudgetEnd}
use Rattle.elf_image.specs.Layout.{Setup}
use Rattle.event_journal.specs.declared.events.Event.{Event}
use Rattle.seq_driver.specs.Driven.{state_after}
use Rattle.sim_config.specs.Request.{written_names}
use Rattle.stats_report.specs.Report.{state_text}
use Rattle.sim_top.specs.declared.outcomes.Outcome.{Outcome}
use Rattle.sim_top.specs.declared.outcomes.Outcome.TheVariants.{Done, Trap, Deadlock, Budget, ReadFault, WriteFault, NoMemory}
use Rattle.sim_top.specs.Stage.{Reads, ReadsWell}
use Rattle.sim_top.specs.Asked.{machine}
use Rattle.sim_top.specs.Answer.{Stream, Writes, IsPut}
use Rattle.sim_top.specs.Causes.{faultless, Means}
use Rattle.sim_top.specs.Text.{fault_text}

-- the text of the state after a journal that ended so, on the machine that is accepted
abbrev pub IsTextOfRun : List (List ℕ) → Reads → List Event → End → List ℕ → Type 0
IsTextOfRun words r journal end text =
    Means words (λ request. (w : Setup) × machine request (faultless r) (Ok w) × (text ≡ state_text w (state_after w journal) end))

-- the text of an outcome: that of its run, or its fault line
abbrev pub IsTextOf : List (List ℕ) → Reads → Outcome → List Event → List ℕ → Type 0
IsTextOf words r (Done code) journal text = IsTextOfRun words r journal (Exit code) text
IsTextOf words r (Trap thread cause pc) journal text = IsTextOfRun words r journal (TrapEnd thread cause pc) text
IsTextOf words r Deadlock journal text = IsTextOfRun words r journal DeadlockEnd text
IsTextOf words r Budget journal text = IsTextOfRun words r journal BudgetEnd text
IsTextOf words r outcome journal text = text ≡ fault_text outcome

-- the whole text of the outcome was put, where the call wasn't cut off by the stream, a file, or want of memory
abbrev pub IsPrinted : List (List ℕ) → Reads → Stream → Outcome → List Event → Type 0
IsPrinted words r s WriteFault journal = Unit {0}
IsPrinted words r s NoMemory journal = Unit {0}
IsPrinted words r s outcome journal = (text : List ℕ) × IsTextOf words r outcome journal text × IsPut s text

-- where it is told what files hold, a name that the words don't give for writing holds what it held, whatever the answer
abbrev pub KeepsOthers : List (List ℕ) → Writes → Type 0
KeepsOthers words w = (held now : List ℕ → Option (List ℕ)) → w.held ≡ Some held → w.holds ≡ Some now
    → (name : List ℕ) → (Means words (λ request. Contains (written_names request) name) → ⊥) → now name ≡ held name

-- nothing failed that the outcome doesn't tell of
abbrev pub HasNoOtherFault : Reads → Stream → Writes → Outcome → Type 0
HasNoOtherFault r s w WriteFault = Unit {0}
HasNoOtherFault r s w NoMemory = Unit {0}
HasNoOtherFault r s w ReadFault = (s.faults_now ≡ s.faults_before) × (w.now ≡ w.before)
HasNoOtherFault r s w outcome = ReadsWell r × (s.faults_now ≡ s.faults_before) × (w.now ≡ w.before)
