-- The runs of a machine of numbered nodes: lists of events, each of which can happen where it stands. This simulator's
-- own.
use Rattle.std.specs.Prelude.{ℕ, ◌&&◌, Bool, not, nat_lt, IsTrue, List, [], ◌∷◌}
use Rattle.event_journal.specs.declared.events.Event.{Event}
use Rattle.event_journal.specs.declared.events.Event.TheVariants.{Step, Deliver}
use Rattle.event_journal.specs.Rules.{Rules}
use Rattle.event_journal.specs.State.{State, is_empty, changed, with_queue}

-- the state after a node took the first message that waits from another, where one waits
abbrev pub delivered : {N M : Type 0} → Rules N M → State N M → ℕ → ℕ → List M → State N M
delivered r s from node [] = s
delivered r s from node (message ∷ messages) =
    changed (with_queue s from node messages) node (r.deliver node (s.node node) from message)

-- the state after an event
abbrev pub happens : {N M : Type 0} → Rules N M → State N M → Event → State N M
happens r s (Step node) = changed s node (r.step node (s.node node))
happens r s (Deliver from node) = delivered r s from node (s.queue from node)

-- whether an event is enabled in a state, on a machine with so many nodes: the nodes are among them, the one that acts
-- has room for one more event, and it can step, or a message waits for it from that sender
abbrev pub can_happen : {N M : Type 0} → Rules N M → ℕ → State N M → Event → Bool
can_happen r count s (Step node) = nat_lt node count && (nat_lt (s.made node) r.room && r.can_step (s.node node))
can_happen r count s (Deliver from node) =
    nat_lt from count
    && (nat_lt node count && (nat_lt (s.made node) r.room && not (is_empty (s.queue from node))))

-- each event of a list is enabled in the state after those before it
abbrev pub IsRun : {N M : Type 0} → Rules N M → ℕ → State N M → List Event → Type 0
IsRun r count s [] = Unit {0}
IsRun r count s (event ∷ events) = IsTrue (can_happen r count s event) × IsRun r count (happens r s event) events

-- the state after a list of events
abbrev pub after : {N M : Type 0} → Rules N M → State N M → List Event → State N M
after r s [] = s
after r s (event ∷ events) = after r (happens r s event) events
