-- Laws of runs: over any type of node and of message, any rules, any number of nodes, and any state to begin with.
use Rattle.std.specs.Prelude.{ℕ, ◌≡◌, ◌≤◌, ◌*◌, ◌++◌, List, length, take}
use Rattle.event_journal.specs.declared.events.Event.{Event}
use Rattle.event_journal.specs.Event.{events_of}
use Rattle.event_journal.specs.Rules.{Rules}
use Rattle.event_journal.specs.State.{State, start}
use Rattle.event_journal.specs.Run.{IsRun, after}

-- the state after two lists of events, one after the other, is that after the second from the state after the first
abbrev pub StatesJoin : Type 0 → Type 0 → Type 0
StatesJoin N M =
    (r : Rules N M) (s : State N M) (a b : List Event) → after r s (a ++ b) ≡ after r (after r s a) b

-- a run, and then a run from the state after it, are a run
abbrev pub RunsJoin : Type 0 → Type 0 → Type 0
RunsJoin N M =
    (r : Rules N M) (count : ℕ) (s : State N M) (a b : List Event)
    → IsRun r count s a → IsRun r count (after r s a) b → IsRun r count s (a ++ b)

-- two lists of events that are a run together are a run, and then a run from the state after it
abbrev pub RunsSplit : Type 0 → Type 0 → Type 0
RunsSplit N M =
    (r : Rules N M) (count : ℕ) (s : State N M) (a b : List Event)
    → IsRun r count s (a ++ b) → IsRun r count s a × IsRun r count (after r s a) b

-- the first events of a run are a run
abbrev pub RunsHavePrefixes : Type 0 → Type 0 → Type 0
RunsHavePrefixes N M =
    (r : Rules N M) (count : ℕ) (s : State N M) (events : List Event) (k : ℕ)
    → IsRun r count s events → IsRun r count s (take k events)

-- what a run counts for a node: the events of it that this node makes
abbrev pub CountsEvents : Type 0 → Type 0 → Type 0
CountsEvents N M =
    (r : Rules N M) (count : ℕ) (first : ℕ → N) (events : List Event) (node : ℕ)
    → IsRun r count (start first) events → (after r (start first) events).made node ≡ events_of node events

-- a run has room: no node makes more events than it may, and only nodes of the machine make any
pub record IsWithinRoom (count room : ℕ) (events : List Event) : Type 0 where
  pub node : (node : ℕ) → events_of node events ≤ room
  pub nobody_else : (node : ℕ) → count ≤ node → events_of node events ≡ 0
  pub all : length events ≤ count * room

-- every run from a start has room
abbrev pub RunsStayWithin : Type 0 → Type 0 → Type 0
RunsStayWithin N M =
    (r : Rules N M) (count : ℕ) (first : ℕ → N) (events : List Event)
    → IsRun r count (start first) events → IsWithinRoom count r.room events
