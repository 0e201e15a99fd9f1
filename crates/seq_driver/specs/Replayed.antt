-- What making a journal's events again answers. This simulator's own.
use Rattle.std.specs.Prelude.{ℕ, ◌≡◌, false, List, length, take, slice_get, Some, None, Result, Ok, Err}
use Rattle.sim_base.specs.Numbering.{node_count}
use Rattle.elf_image.specs.Layout.{Setup}
use Rattle.event_journal.specs.declared.events.Event.{Event}
use Rattle.event_journal.specs.Run.{can_happen}
use Rattle.node_machine.specs.declared.cores.Ran.{Ran}
use Rattle.node_machine.specs.Machine.{rules}
use Rattle.node_machine.specs.End.{end_of}
use Rattle.seq_driver.specs.declared.replays.ReplayFault.{ReplayFault}
use Rattle.seq_driver.specs.declared.replays.ReplayFault.TheVariants.{NotEnabled, Unfinished, NoMemory}
use Rattle.seq_driver.specs.Driven.{state_after, IsJournal, IsRan}

-- the events before this one, which is counted from 0, are a run, and this one isn't enabled after them
pub record IsFirstRefused (w : Setup) (events : List Event) (index : ℕ) : Type 0 where
  pub event : Event
  pub here : slice_get events index ≡ Some event
  pub run : IsJournal w (take index events)
  pub refused : can_happen (rules w) (node_count w.config) (state_after w (take index events)) event ≡ false

-- the events, of this number, are a run that leads to a state without an end
pub record IsUnfinished (w : Setup) (events : List Event) (count : ℕ) : Type 0 where
  pub run : IsJournal w events
  pub no_end : end_of w (state_after w events) ≡ None
  pub all : length events ≡ count

-- what a replay answers: the journal that it was given, run to its end; or why it isn't the whole of a run. Want of memory
-- is free
abbrev pub Replays : Setup → List Event → Result Ran ReplayFault → Type 0
Replays w events (Ok ran) = IsRan w ran × (ran.journal ≡ events)
Replays w events (Err (NotEnabled index)) = IsFirstRefused w events index
Replays w events (Err (Unfinished count)) = IsUnfinished w events count
Replays w events (Err NoMemory) = Unit {0}
