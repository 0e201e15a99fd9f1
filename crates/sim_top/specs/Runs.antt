-- The run of a machine that a call makes, and what is told of it. This simulator's own.
use Rattle.std.specs.Prelude.{◌≡◌, ℕ, List, [], ◌++◌, take, Some}
use Rattle.sim_base.specs.declared.ends.End.{End}
use Rattle.sim_base.specs.declared.ends.End.TheVariants.{Exit, Trap, Deadlock, Budget}
use Rattle.elf_image.specs.Layout.{Setup}
use Rattle.event_journal.specs.declared.events.Event.{Event}
use Rattle.journal_file.specs.File.{journal_bytes}
use Rattle.node_machine.specs.Machine.{start_state}
use Rattle.node_machine.specs.End.{end_of}
use Rattle.node_machine.specs.Trapping.{HasTrapped}
use Rattle.coherence_laws.specs.Coherence.{IsCoherent}
use Rattle.coherence_laws.specs.Laws.{line_value}
use Rattle.seq_driver.specs.Driven.{state_after, IsJournal, IsDrawn, IsStuck}
use Rattle.seq_driver.specs.Replayed.{IsFirstRefused, IsUnfinished}
use Rattle.stats_report.specs.Report.{state_text}
use Rattle.sim_top.specs.declared.outcomes.JournalFault.{JournalFault}
use Rattle.sim_top.specs.declared.outcomes.JournalFault.TheVariants.{TooLong, Byte, Event as EventFault, Unfinished}
use Rattle.sim_top.specs.declared.outcomes.Outcome.{Outcome}
use Rattle.sim_top.specs.declared.outcomes.Outcome.TheVariants.{Done, Trap as TrapOutcome, Deadlock as DeadlockOutcome, Budget as BudgetOutcome, Stuck, BadJournal}
use Rattle.sim_top.specs.Stage.{Stage, made}
use Rattle.sim_top.specs.Verdict.{Verdict, files_of}

-- the outcome of a run that ended so
abbrev pub outcome_of : End → Outcome
outcome_of (Exit code) = Done code
outcome_of (Trap thread cause pc) = TrapOutcome thread cause pc
outcome_of Deadlock = DeadlockOutcome
outcome_of Budget = BudgetOutcome

-- where a run ended by a trap, some event of it is a step in which that thread's instruction at that pc traps so
abbrev pub HasCause : Setup → List Event → End → Type 0
HasCause w journal (Trap thread cause pc) = HasTrapped w (start_state w) journal thread cause pc
HasCause w journal _ = Unit {0}

-- in the state after each event of a run each line of memory is coherent: one writer or only readers, and one value, which is
-- what the image gives the line, changed by the accesses so far
abbrev pub StaysCoherent : Setup → List Event → Type 0
StaysCoherent w journal = (events line : ℕ) → IsCoherent w (state_after w (take events journal)) line (line_value w (take events journal) line)

-- a verdict is that of a machine's run that was asked for: its journal is a run, up to a state that has an end; the outcome is
-- that end; the text is that of this state, and then the tail; and each line stays coherent
pub record HasRun (w : Setup) (IsAsked : List Event → Type 0) (tail : List ℕ) (v : Verdict) : Type 0 where
  pub asked : IsAsked v.journal
  pub run : IsJournal w v.journal
  pub end : End
  pub ended : end_of w (state_after w v.journal) ≡ Some end
  pub outcome_is : v.outcome ≡ outcome_of end
  pub cause : HasCause w v.journal end
  pub text_is : v.text ≡ state_text w (state_after w v.journal) end ++ tail
  pub coherent : StaysCoherent w v.journal

-- a verdict's files are its journal, written to these names
abbrev pub WritesJournal : List (List ℕ) → Verdict → Type 0
WritesJournal names v = v.files ≡ files_of names (journal_bytes v.journal)

-- the seed's run comes to a state without an end in which no event is enabled
abbrev pub GetsStuck : Setup → Outcome → Type 0
GetsStuck w outcome = (outcome ≡ Stuck) × (events : List Event) × IsStuck w events

-- the run that the seed draws, its journal written to these names; or it gets stuck
abbrev pub drawn : List (List ℕ) → Setup → Stage Verdict
drawn names w = made (λ v. HasRun w (IsDrawn w) [] v × WritesJournal names v) (GetsStuck w)

-- events are no whole run of a machine: one of them isn't enabled after those before it, or they end before the run does
abbrev pub IsNoRun : Setup → List Event → JournalFault → Type 0
IsNoRun w events (EventFault index) = IsFirstRefused w events index
IsNoRun w events (Unfinished count) = IsUnfinished w events count
IsNoRun w events _ = ⊥

abbrev pub RefusesEvents : Setup → List Event → Outcome → Type 0
RefusesEvents w events outcome = (fault : JournalFault) × (outcome ≡ BadJournal fault) × IsNoRun w events fault

-- the run that these events are; or why they are none
abbrev pub followed : Setup → List Event → Stage Verdict
followed w events = made (λ v. HasRun w (λ journal. journal ≡ events) [] v × WritesJournal [] v) (RefusesEvents w events)
