-- One more event of a journal was made, or it was refused, or all of them were made.
use Rattle.std.proofs.Common.{◌≡◌, ℕ, zero, suc, ◌+◌, ◌<◌, ◌≤◌, false, List, [], ◌∷◌, ◌++◌, length, take, drop, refl, ap, sym, subst, ◌∙◌, arith, add-one, length-drop}
use Rattle.std.specs.Prelude.{Option, Some, None, slice_get}
use Rattle.std.proofs.lemmas.List.{take_all}
use Rattle.sim_base.specs.declared.actions.Action.{Action}
use Rattle.sim_base.specs.declared.ends.End.{End}
use Rattle.sim_base.specs.Numbering.{node_count}
use Rattle.elf_image.specs.Layout.{Setup}
use Rattle.wire_msg.specs.declared.messages.Msg.{Msg}
use Rattle.event_journal.specs.declared.events.Event.{Event}
use Rattle.event_journal.specs.State.{State}
use Rattle.event_journal.specs.Run.{can_happen}
use Rattle.node_machine.specs.declared.nodes.Node.{Node}
use Rattle.node_machine.specs.Machine.{rules}
use Rattle.node_machine.specs.Core.{CoreData, Shows, IsCore, IsMade, end_in}
use Rattle.node_machine.proofs.ShownLemmas.{shown_is_read}
use Rattle.seq_driver.specs.Driven.{state_after, IsRan}
use Rattle.seq_driver.specs.Replayed.{IsFirstRefused, IsUnfinished}
use Rattle.seq_driver.specs.Inner.{IsUnderWay}
use Rattle.seq_driver.proofs.DrawLemmas.{goes_on}

-- a member is at its place of a list, where what is left of the list from there on begins with it
pub record IsNext (events : List Event) (index : ℕ) (event : Event) (rest : List Event) : Type 0 where
  pub here : slice_get events index ≡ Some event
  pub done : take (index + 1) events ≡ take index events ++ event ∷ []
  pub left : drop (index + 1) events ≡ rest
  pub within : index < length events

pub is_next : (events : List Event) (index : ℕ) (event : Event) (rest : List Event) → drop index events ≡ event ∷ rest
    → IsNext events index event rest
is_next [] index event rest left = absurd (nothing index left)
  where
    nothing : (n : ℕ) → drop n [] ≡ event ∷ rest → ⊥
    nothing zero e = cc
    nothing (suc n) e = cc
is_next (x ∷ xs) zero event rest left = record { here = cc; done = cc; left = cc; within = omega arith }
is_next (x ∷ xs) (suc index) event rest left =
    let next : IsNext xs index event rest = is_next xs index event rest left in
    let later : suc index + 1 ≡ suc (index + 1) = omega arith in
    record {
      here = next.here;
      done = ap (λ n. take n (x ∷ xs)) later ∙ ap (λ events. x ∷ events) next.done;
      left = ap (λ n. drop n (x ∷ xs)) later ∙ next.left;
      within = omega (arith, next.within);
    }

-- where nothing is left of a list, all of it is done
pub nothing_left : (events : List Event) (index : ℕ) → drop index events ≡ [] → length events ≤ index
nothing_left events index none = omega (arith, length-drop index events, ap length none)

module _ (w : Setup) (core : CoreData) (events : List Event) (index : ℕ) (under : IsUnderWay w core (take index events)) where
  module _ (event : Event) (rest : List Event) (left : drop index events ≡ event ∷ rest) where
    pub replay_goes_on : (new : CoreData) (action : Option Action) → IsCore w new → new.spent ≡ false
        → ((s : State Node Msg) → Shows core s → IsMade w event action core new s)
        → IsUnderWay w new (take (index + 1) events)
    replay_goes_on new action fits not_spent made =
        let one : IsMade w event action core new (state_after w (take index events)) = made (state_after w (take index events)) under.shows in
        subst (IsUnderWay w new) (sym (is_next events index event rest left).done)
        (goes_on w core new (take index events) event under fits not_spent one.enabled one.shows)

    pub first_refused : ((s : State Node Msg) → Shows core s → can_happen (rules w) (node_count w.config) s event ≡ false)
        → IsFirstRefused w events index
    first_refused refused = record {
      event = event;
      here = (is_next events index event rest left).here;
      run = under.run;
      refused = refused (state_after w (take index events)) under.shows;
    }

  module _ (all : drop index events ≡ []) where
    all_made : IsUnderWay w core events
    all_made = subst (IsUnderWay w core) (take_all index events (nothing_left events index all)) under

    pub replayed : (end : End) → end_in core ≡ Some end → IsRan w (record { journal = events; core = core; end = end })
    replayed end is = record {
      run = all_made.run;
      fits = all_made.fits;
      not_spent = all_made.not_spent;
      shows = all_made.shows;
      end = sym (shown_is_read w core (state_after w events) all_made.fits all_made.shows).end ∙ is;
    }

    pub unfinished : (count : ℕ) → length events ≡ count → end_in core ≡ None → IsUnfinished w events count
    unfinished count is none = record {
      run = all_made.run;
      no_end = sym (shown_is_read w core (state_after w events) all_made.fits all_made.shows).end ∙ none;
      all = is;
    }
