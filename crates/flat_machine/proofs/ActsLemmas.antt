-- Lists of actions: one after the other, as a run makes them, and after an end.
use Rattle.std.proofs.Common.{◌≡◌, ℕ, ◌+◌, ◌++◌, zero, suc, List, [], ◌∷◌, length, refl, sym, ap, ◌∙◌, arith}
use Rattle.std.specs.Prelude.{Option, Some, None, IsSome, option_and_then}
use Rattle.std.proofs.lemmas.List.{length-append}
use Rattle.sim_base.specs.declared.actions.Action.{Action}
use Rattle.sim_base.specs.declared.actions.Action.TheVariants.{Exec, FailSc, Load, Serve, Return, Begin}
use Rattle.sim_base.specs.declared.ends.End.{End}
use Rattle.elf_image.specs.Layout.{Setup}
use Rattle.flat_machine.specs.State.{State, start}
use Rattle.flat_machine.specs.Action.{act, failed, loaded, returned, begun}
use Rattle.flat_machine.specs.Run.{legal_action, onward, after}
use Rattle.flat_machine.specs.Acts.{acts_from, IsOfActions, RunIsOfActions, EndStays}
use Rattle.flat_machine.proofs.RunLemmas.{after-zero, after-suc}
use Rattle.flat_machine.proofs.ActLemmas.{moved_by, executed_by_act, served_by_act}
use Rattle.flat_machine.proofs.LegalLemmas.{made_is_legal}

-- two lists of actions, one after the other
pub acts_append : (w : Setup) (s : State) (a b : List Action) → acts_from w s (a ++ b) ≡ option_and_then (λ next. acts_from w next b) (acts_from w s a)
acts_append w s [] b = refl
acts_append w s (action ∷ a) b = by_first (act w s action) (λ next. acts_append w next a b) where
  by_first : (o : Option State) → ((next : State) → acts_from w next (a ++ b) ≡ option_and_then (λ later. acts_from w later b) (acts_from w next a))
      → option_and_then (λ next. acts_from w next (a ++ b)) o ≡ option_and_then (λ later. acts_from w later b) (option_and_then (λ next. acts_from w next a) o)
  by_first None rest = refl
  by_first (Some next) rest = rest next

-- the run with one thread
one_turn : (w : Setup) (n : ℕ) → IsOfActions w n → IsOfActions w (suc n)
one_turn w n h = by_action (legal_action w (after w n)) refl where
  stays : (o : Option Action) → legal_action w (after w n) ≡ None → onward w (after w n) ≡ after w n
  stays o none = rw none refl

  by_next : (a : Action) (o : Option State) → legal_action w (after w n) ≡ Some a → act w (after w n) a ≡ o → IsSome o → IsOfActions w (suc n)
  by_next a None e made legal = cc
  by_next a (Some next) e made legal =
      let there : after w (suc n) ≡ next = after-suc w n ∙ rw (e, made) refl in
      let count : length (h.actions ++ a ∷ []) ≡ length h.actions + 1 = length-append h.actions (a ∷ []) in
      record {
        actions = h.actions ++ a ∷ [];
        few = omega (arith, count, h.few);
        are = acts_append w (start w) h.actions (a ∷ []) ∙ rw h.are (rw made (ap Some (sym there)));
        all = λ less. let none : legal_action w (after w n) ≡ None = h.all (omega (arith, count, less)) in cc;
      }

  by_action : (o : Option Action) → legal_action w (after w n) ≡ o → IsOfActions w (suc n)
  by_action None e =
      let there : after w (suc n) ≡ after w n = after-suc w n ∙ stays None e in
      record {
        actions = h.actions;
        few = omega (arith, h.few);
        are = h.are ∙ ap Some (sym there);
        all = λ less. ap (legal_action w) there ∙ e;
      }
  by_action (Some a) e = by_next a (act w (after w n) a) e refl (made_is_legal w (after w n) a e)

pub run_is_of_actions : RunIsOfActions
run_is_of_actions w zero = record { actions = []; few = omega arith; are = ap Some (sym (after-zero w)); all = λ less. absurd (omega (arith, less)) }
run_is_of_actions w (suc n) = one_turn w n (run_is_of_actions w n)

-- an end stays
ended_after : (w : Setup) (s : State) (a : Action) (next : State) (end : End) → act w s a ≡ Some next → s.ended ≡ Some end → next.ended ≡ Some end
ended_after w s (Exec number) next end e ended = ap (λ (t : State). t.ended) (sym (executed_by_act w s number next e).gives) ∙ ended
ended_after w s (FailSc number) next end e ended = ap (λ (t : State). t.ended) (sym (moved_by s number (failed w number) next e).gives) ∙ ended
ended_after w s (Load number) next end e ended = ap (λ (t : State). t.ended) (sym (moved_by s number (loaded s.memory) next e).gives) ∙ ended
ended_after w s (Return number) next end e ended = ap (λ (t : State). t.ended) (sym (moved_by s number returned next e).gives) ∙ ended
ended_after w s (Begin number tile) next end e ended = ap (λ (t : State). t.ended) (sym (moved_by s number (begun w s tile) next e).gives) ∙ ended
ended_after w s (Serve number) next end e ended = let goes_on : s.ended ≡ None = (served_by_act w s number next e).goes_on in cc

pub end_stays : EndStays
end_stays w s next [] end e ended = let same : s ≡ next = cc in ap (λ (t : State). t.ended) (sym same) ∙ ended
end_stays w s next (action ∷ actions) end e ended = by_first (act w s action) refl (λ mid. end_stays w mid next actions end) e where
  by_first : (o : Option State) → act w s action ≡ o → ((mid : State) → acts_from w mid actions ≡ Some next → mid.ended ≡ Some end → next.ended ≡ Some end)
      → option_and_then (λ mid. acts_from w mid actions) o ≡ Some next → next.ended ≡ Some end
  by_first None made rest e = cc
  by_first (Some mid) made rest e = rest mid e (ended_after w s action mid end made ended)
