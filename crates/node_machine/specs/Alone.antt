-- Steps that one node makes one after the other, while no other node acts. This simulator's own.
use Rattle.std.specs.Prelude.{ℕ, zero, suc, ◌+◌, ◌-◌, ◌≡◌, ◌<◌, true, false, List, [], ◌∷◌, Result, Ok, Err}
use Rattle.sim_base.specs.Numbering.{node_count}
use Rattle.elf_image.specs.Layout.{Setup}
use Rattle.wire_msg.specs.declared.messages.Msg.{Msg}
use Rattle.event_journal.specs.declared.events.Event.{Event}
use Rattle.event_journal.specs.declared.events.Event.TheVariants.{Step}
use Rattle.event_journal.specs.State.{State}
use Rattle.event_journal.specs.Run.{IsRun, after, can_happen}
use Rattle.node_machine.specs.declared.nodes.Node.{Node}
use Rattle.node_machine.specs.declared.cores.ApplyFault.{ApplyFault}
use Rattle.node_machine.specs.declared.cores.ApplyFault.TheVariants.{NotEnabled, NoMemory}
use Rattle.node_machine.specs.Machine.{can_step, node_step, rules}
use Rattle.node_machine.specs.Core.{CoreData, Shows}

-- a node after so many of its steps
unfoldable pub stepped : Setup → Node → ℕ → Node
stepped w node zero = node
stepped w node (suc n) = stepped w (node_step w node).node n

-- the events that they are
unfoldable pub steps_of : ℕ → ℕ → List Event
steps_of node zero = []
steps_of node (suc n) = Step node ∷ steps_of node n

-- so many steps of a node were made from a state: they are a run from it, none of them but the last sends anything, and the
-- state after them is shown. Of a node that is no tile it is one step. Of a tile they are all: the last sends something, or
-- the tile can't step after it, or has made as many events as it may
pub record AreMade (w : Setup) (node n : ℕ) (new : CoreData) (s : State Node Msg) : Type 0 where
  pub some : 0 < n
  pub tile : 1 < n → node < w.config.tiles
  pub run : IsRun (rules w) (node_count w.config) s (steps_of node n)
  pub quiet : (k : ℕ) → k + 1 < n → (node_step w (stepped w (s.node node) k)).sent ≡ []
  pub all : node < w.config.tiles → (node_step w (stepped w (s.node node) (n - 1))).sent ≡ [] → can_step (stepped w (s.node node) n) ≡ true
      → s.made node + n ≡ w.config.events
  pub shows : Shows new (after (rules w) s (steps_of node n))

-- how many steps are made is pinned: of one node from one state it is one number
abbrev pub StepsArePinned : Type 0
StepsArePinned = (w : Setup) (node n m : ℕ) (new other : CoreData) (s : State Node Msg) → AreMade w node n new s → AreMade w node m other s → n ≡ m

-- what making steps of a node answers, as making one event does
abbrev pub StepsOn : Setup → ℕ → Result ℕ ApplyFault → CoreData → CoreData → Type 0
StepsOn w node (Ok n) old new = (old.spent ≡ false) × (new.spent ≡ false) × ((s : State Node Msg) → Shows old s → AreMade w node n new s)
StepsOn w node (Err NotEnabled) old new =
    (old.spent ≡ false) × (new ≡ old) × ((s : State Node Msg) → Shows old s → can_happen (rules w) (node_count w.config) s (Step node) ≡ false)
StepsOn w node (Err NoMemory) old new = new.spent ≡ true
