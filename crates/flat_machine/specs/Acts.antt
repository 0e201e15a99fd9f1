-- Lists of actions of the flat machine, of any number of threads, each legal where it stands; and laws of them.
use Rattle.std.specs.Prelude.{ℕ, ◌≡◌, ◌≤◌, ◌<◌, List, [], ◌∷◌, length, Option, Some, None, option_and_then}
use Rattle.sim_base.specs.declared.actions.Action.{Action}
use Rattle.sim_base.specs.declared.ends.End.{End}
use Rattle.elf_image.specs.Layout.{Setup}
use Rattle.flat_machine.specs.State.{State, start}
use Rattle.flat_machine.specs.Action.{act}
use Rattle.flat_machine.specs.Run.{legal_action, after}

-- the state after a list of actions, from a state; none where one of them isn't legal
abbrev pub acts_from : Setup → State → List Action → Option State
acts_from w s [] = Some s
acts_from w s (action ∷ actions) = option_and_then (λ next. acts_from w next actions) (act w s action)

-- the same from before the program runs
abbrev pub acts_after : Setup → List Action → Option State
acts_after w actions = acts_from w (start w) actions

-- the state after so many turns of the run with one thread is that after a list of actions: one for each turn, or fewer
-- where no action is legal alone any more
pub record IsOfActions (w : Setup) (turns : ℕ) : Type 0 where
  pub actions : List Action
  pub few : length actions ≤ turns
  pub are : acts_after w actions ≡ Some (after w turns)
  pub all : length actions < turns → legal_action w (after w turns) ≡ None

abbrev pub RunIsOfActions : Type 0
RunIsOfActions = (w : Setup) (turns : ℕ) → IsOfActions w turns

-- an end stays, whatever is done after it
abbrev pub EndStays : Type 0
EndStays = (w : Setup) (s next : State) (actions : List Action) (end : End) → acts_from w s actions ≡ Some next → s.ended ≡ Some end → next.ended ≡ Some end
