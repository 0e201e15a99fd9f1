-- For the contracts of the code alone: no clause of a public function needs this. What is drawn of the machine that the
-- program keeps.
use Rattle.std.specs.Prelude.{ℕ, ◌≡◌, ◌<◌, ◌++◌, Bool, true, false, List, [], ◌∷◌, length, map, slice_get, Option, Some, None, Result, Ok, Err}
use Rattle.rand_pcg.specs.Lcg.{Lcg}
use Rattle.elf_image.specs.Layout.{Setup}
use Rattle.event_journal.specs.declared.events.Event.{Event}
use Rattle.event_journal.specs.declared.events.Event.TheVariants.{Deliver}
use Rattle.event_journal.specs.Choice.{own_step}
use Rattle.node_machine.specs.Core.{CoreData, Shows, IsCore, steps_at, acting_in, senders_in}
use Rattle.seq_driver.specs.Picked.{start_stream, next_word, after_word, after_draw, picked}
use Rattle.seq_driver.specs.declared.driver.DriveFault.{DriveFault}
use Rattle.seq_driver.specs.declared.driver.DriveFault.TheVariants.{Stuck, NoMemory}
use Rattle.seq_driver.specs.Driven.{state_after, IsJournal, IsDrawn, IsStuck}

-- what a node can do: its step, if it can step, and then a delivery from each of these senders
abbrev pub choices_in : Bool → ℕ → List ℕ → List Event
choices_in can_step node senders = own_step can_step node ++ map (λ from. Deliver from node) senders

abbrev pub choice_in : CoreData → Option ℕ → ℕ → Option Event
choice_in core None word = None
choice_in core (Some node) word = picked (choices_in (steps_at (slice_get core.nodes node)) node (senders_in core node)) word

-- the event that the stream's next two words pick
abbrev pub drawn_in : CoreData → Lcg → Option Event
drawn_in core g = choice_in core (picked (acting_in core) (next_word g)) (next_word (after_word g))

-- the stream after so many events
abbrev pub after_draws : Lcg → List Event → Lcg
after_draws g [] = g
after_draws g (event ∷ events) = after_draws (after_draw g) events

-- a run is under way: the core is one of the machine, isn't spent and shows the state after the events so far, which are a
-- run; the stream drew them
pub record IsUnderWay (w : Setup) (core : CoreData) (events : List Event) : Type 0 where
  pub fits : IsCore w core
  pub not_spent : core.spent ≡ false
  pub shows : Shows core (state_after w events)
  pub run : IsJournal w events

pub record IsDrawing (w : Setup) (g : Lcg) (events : List Event) : Type 0 where
  pub drawn : IsDrawn w events
  pub stream : g ≡ after_draws (start_stream w.config.seed) events

-- a node alone can act, and all that it can do is to step
pub record IsLone (core : CoreData) (node : ℕ) : Type 0 where
  pub acting : acting_in core ≡ node ∷ []
  pub senders : senders_in core node ≡ []
  pub steps : steps_at (slice_get core.nodes node) ≡ true

-- one event or more was made, and the run is still under way; or there was none to make
abbrev pub GoesOn : Setup → Result (Unit {0}) DriveFault → CoreData → Lcg → List Event → List Event → Type 0
GoesOn w (Ok done) core g old new = (length old < length new) × IsUnderWay w core new × IsDrawing w g new
GoesOn w (Err Stuck) core g old new = IsStuck w old
GoesOn w (Err NoMemory) core g old new = Unit {0}
