-- Runs of the flat machine with one thread: its only legal action is made again and again.
use Rattle.std.specs.Prelude.{ℕ, ◌≡◌, ◌<◌, ◌==◌, ◌&&◌, not, Bool, IsSome, is_some, [], ◌∷◌, length, find, if◌then◌else◌, Option, Some, None, option_and_then, unwrap_or, zero, suc}
use Rattle.std.specs.FinMap.{contains_key}
use Rattle.sim_base.specs.declared.actions.Action.{Action}
use Rattle.sim_base.specs.declared.actions.Action.TheVariants.{Exec, FailSc, Load, Serve, Return, Begin}
use Rattle.sim_base.specs.declared.ends.Cause.{Cause}
use Rattle.sim_base.specs.declared.ends.End.TheVariants.{Trap}
use Rattle.elf_image.specs.Layout.{Setup}
use Rattle.flat_machine.specs.State.{State, start}
use Rattle.flat_machine.specs.Action.{act, IsTrapping}

-- whether an action is legal, and the first one that is of those that thread 0 makes by itself
abbrev pub is_legal : Setup → State → Action → Bool
is_legal w s a = is_some (act w s a)

abbrev pub first_legal : Setup → State → Option Action
first_legal w s = find (is_legal w s) (Exec 0 ∷ Load 0 ∷ Serve 0 ∷ Return 0 ∷ [])

-- the only legal action of a machine of one thread. There is none where a store-conditional may fail, which is legal
-- even where it may be done, and where there is a second thread
unfoldable pub legal_action : Setup → State → Option Action
legal_action w s = if length s.threads == 1 && not (is_legal w s (FailSc 0)) then first_legal w s else None

-- the state after the legal action, or the same state where there is none
abbrev pub onward : Setup → State → State
onward w s = unwrap_or (option_and_then (act w s) (legal_action w s)) s

-- the state after that many actions, or fewer where no action is made any more
unfoldable pub after : Setup → ℕ → State
after w zero = start w
after w (suc n) = onward w (after w n)

-- the laws of such runs

-- the action that is made is legal
abbrev pub MadeIsLegal : Type 0
MadeIsLegal = (w : Setup) (s : State) (a : Action) → legal_action w s ≡ Some a → IsSome (act w s a)

-- of a machine of one thread that is at no store-conditional and has begun, it is the only one
abbrev pub LegalIsMade : Type 0
LegalIsMade = (w : Setup) (s : State) (a : Action) → length s.threads ≡ 1 → act w s (FailSc 0) ≡ None
    → ((tile : ℕ) → act w s (Begin 0 tile) ≡ None) → IsSome (act w s a) → legal_action w s ≡ Some a

-- where a run ended by a trap, a thread's instruction has trapped so in an earlier state of the run
abbrev pub TrapHasCause : Type 0
TrapHasCause = (w : Setup) (n number : ℕ) (cause : Cause) (pc : ℕ) → (after w n).ended ≡ Some (Trap number cause pc)
    → (k : ℕ) × (k < n) × IsTrapping w (after w k) number cause pc

-- a law of every action: which addresses are mapped stays
abbrev pub MappedStays : Type 0
MappedStays = (w : Setup) (s : State) (a : Action) (next : State) (address : ℕ) → act w s a ≡ Some next
    → contains_key next.memory address ≡ contains_key s.memory address
