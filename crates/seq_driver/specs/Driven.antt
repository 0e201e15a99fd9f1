-- What a run on one thread answers. This simulator's own.
use Rattle.std.specs.Prelude.{◌≡◌, false, List, Some, None, Result, Ok, Err}
use Rattle.sim_base.specs.declared.ends.End.{End}
use Rattle.sim_base.specs.Numbering.{node_count}
use Rattle.elf_image.specs.Layout.{Setup}
use Rattle.wire_msg.specs.declared.messages.Msg.{Msg}
use Rattle.event_journal.specs.declared.events.Event.{Event}
use Rattle.event_journal.specs.State.{State}
use Rattle.event_journal.specs.Run.{IsRun, after, can_happen}
use Rattle.node_machine.specs.declared.nodes.Node.{Node}
use Rattle.node_machine.specs.declared.cores.Ran.{Ran}
use Rattle.node_machine.specs.Machine.{rules, start_state}
use Rattle.node_machine.specs.Core.{Shows, IsCore}
use Rattle.node_machine.specs.End.{end_of}
use Rattle.seq_driver.specs.declared.driver.DriveFault.{DriveFault}
use Rattle.seq_driver.specs.declared.driver.DriveFault.TheVariants.{Stuck, NoMemory}
use Rattle.seq_driver.specs.Picked.{start_stream, AreDrawn}

-- the state that a world's events lead to, from before the program runs
abbrev pub state_after : Setup → List Event → State Node Msg
state_after w events = after (rules w) (start_state w) events

-- a run from before the program runs
abbrev pub IsJournal : Setup → List Event → Type 0
IsJournal w events = IsRun (rules w) (node_count w.config) (start_state w) events

-- what was run: the journal is a run, the core is one of the machine, isn't spent and shows the state after it, and that
-- state has ended so
pub record IsRan (w : Setup) (ran : Ran) : Type 0 where
  pub run : IsJournal w ran.journal
  pub fits : IsCore w ran.core
  pub not_spent : ran.core.spent ≡ false
  pub shows : Shows ran.core (state_after w ran.journal)
  pub end : end_of w (state_after w ran.journal) ≡ Some ran.end

-- a list of events is drawn by the stream of the world's seed
abbrev pub IsDrawn : Setup → List Event → Type 0
IsDrawn w events = AreDrawn w (start_state w) (start_stream w.config.seed) events

-- a list of events leads to a state without an end in which no event is enabled
pub record IsStuck (w : Setup) (events : List Event) : Type 0 where
  pub run : IsJournal w events
  pub drawn : IsDrawn w events
  pub no_end : end_of w (state_after w events) ≡ None
  pub none_enabled : (event : Event) → can_happen (rules w) (node_count w.config) (state_after w events) event ≡ false

-- what a run on one thread answers. Want of memory is free
abbrev pub Drives : Setup → Result Ran DriveFault → Type 0
Drives w (Ok ran) = IsRan w ran × IsDrawn w ran.journal
Drives w (Err Stuck) = (events : List Event) × IsStuck w events
Drives w (Err NoMemory) = Unit {0}

-- a world has one seed's run at most: of two lists of events that are drawn, each to its first state with an end, both are
-- the same
abbrev pub OneIsDrawn : Type 0
OneIsDrawn = (w : Setup) (a b : List Event) (first second : End) → IsDrawn w a → end_of w (state_after w a) ≡ Some first
    → IsDrawn w b → end_of w (state_after w b) ≡ Some second → a ≡ b
