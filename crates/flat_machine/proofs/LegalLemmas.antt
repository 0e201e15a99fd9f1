-- The legal action of a machine of one thread, by its thread's status, and that it is the only one.
use Rattle.std.proofs.Common.{◌≡◌, ℕ, ◌==◌, ◌&&◌, zero, suc, List, [], ◌∷◌, length, Bool, true, false, cond, not, refl, ap, sym, ◌∙◌, arith}
use Rattle.std.specs.Prelude.{Option, Some, None, IsSome, is_some, find, nat_lt, slice_get, slice_set}
use Rattle.std.specs.Option.{option_map}
use Rattle.std.proofs.lemmas.Bool.Decides.{nat_tests}
use Rattle.sim_base.specs.declared.actions.Action.{Action}
use Rattle.sim_base.specs.declared.actions.Action.TheVariants.{Exec, FailSc, Load, Serve, Return, Begin}
use Rattle.sim_base.specs.declared.ends.End.{End}
use Rattle.elf_image.specs.Layout.{Setup}
use Rattle.rv_hart.specs.declared.reservations.Span.{Span}
use Rattle.rv_hart.specs.declared.steps.Step.{Step}
use Rattle.rv_hart.specs.declared.steps.Step.TheVariants.{Access}
use Rattle.rv_hart.specs.Reservation.{is_conditional}
use Rattle.serving.specs.declared.control_data.Request.{Request}
use Rattle.flat_machine.specs.declared.threads.Thread.{Thread}
use Rattle.flat_machine.specs.declared.threads.Status.{Status}
use Rattle.flat_machine.specs.declared.threads.Status.TheVariants.{Ready, Writing, Asked, Answered, Left, Trapped}
use Rattle.flat_machine.specs.State.{State, with_thread}
use Rattle.flat_machine.specs.Reservation.{others_end}
use Rattle.flat_machine.specs.Action.{Change, act, step_of, executed, executed_by, executed_by_step, conditional_rd, failed_conditional, with_change}
use Rattle.flat_machine.specs.Run.{is_legal, first_legal, legal_action, onward, MadeIsLegal, LegalIsMade}
use Rattle.flat_machine.specs.Inner.{action_by, action_of, exec_unless, serve_before, IsAloneReady}

-- what is chosen at a step: it is executed unless it is a store-conditional
abbrev chosen_at : State → Thread → Step → Option Action
chosen_at s t step =
    cond (not (is_some (option_map (with_thread s 0) (option_map (failed_conditional t) (conditional_rd step)))))
    (cond (is_some (option_map (with_change s 0) (executed_by_step s.memory t step))) (Some (Exec 0)) None) None

chosen_by_step : (s : State) (t : Thread) (step : Step) → chosen_at s t step ≡ exec_unless (conditional_rd step)
chosen_by_step s t (Access access) = by_kind (is_conditional access.op) where
  by_kind : (b : Bool) → cond (not (is_some (option_map (with_thread s 0) (option_map (failed_conditional t) (cond b (Some access.rd) None))))) (Some (Exec 0)) None ≡ exec_unless (cond b (Some access.rd) None)
  by_kind true = refl
  by_kind false = refl
chosen_by_step s t _ = refl

-- what is chosen at a write: its next byte while some are left, and else it is served where there is no end
written_on : (f : Thread → State) (g : Request → State) (b : Bool) (t : Thread) (request : Request)
    → cond (is_some (option_map f (cond b (Some t) None))) (Some (Load 0)) (cond (is_some (option_map g (cond b None (Some request)))) (Some (Serve 0)) None)
    ≡ cond b (Some (Load 0)) (Some (Serve 0))
written_on f g true t request = refl
written_on f g false t request = refl

written_after : (f : Thread → State) (b : Bool) (t : Thread) → cond (is_some (option_map f (cond b (Some t) None))) (Some (Load 0)) None ≡ cond b (Some (Load 0)) None
written_after f true t = refl
written_after f false t = refl

module _ (w : Setup) (base : State) (t : Thread) where
  -- a state with this thread alone, in this status
  abbrev alone : Status → Option End → State
  alone status ended = record base { threads = record t { status = status } ∷ []; ended = ended }

  by_status : (status : Status) (ended : Option End) → legal_action w (alone status ended) ≡ action_by w (record t { status = status }) ended status
  unfolding legal_action
  by_status Ready None = chosen_by_step (alone Ready None) (record t { status = Ready }) (step_of w 0 (record t { status = Ready }))
  by_status Ready (Some end) = chosen_by_step (alone Ready (Some end)) (record t { status = Ready }) (step_of w 0 (record t { status = Ready }))
  by_status (Writing addr len bytes) None = written_on _ _ (nat_lt (length bytes) len) _ _
  by_status (Writing addr len bytes) (Some end) = written_after _ (nat_lt (length bytes) len) _
  by_status (Asked call) None = refl
  by_status (Asked call) (Some end) = refl
  by_status (Left code) None = refl
  by_status (Left code) (Some end) = refl
  by_status (Trapped cause pc) None = refl
  by_status (Trapped cause pc) (Some end) = refl
  by_status _ None = refl
  by_status _ (Some end) = refl

  not_both : (o : Option State) → o ≡ None → IsSome o → ⊥
  not_both None e h = cc
  not_both (Some s) e h = cc

  unmapped : (f : ℕ → Thread) (g : Thread → State) (o : Option ℕ) → option_map g (option_map f o) ≡ None → o ≡ None
  unmapped f g None e = refl
  unmapped f g (Some rd) e = cc

  load_left : (b : Bool) (f : Thread → State) (next : Thread) (a d : Option Action) → is_some (option_map f (cond b (Some next) None)) ≡ true → cond b a d ≡ a
  load_left true f next a d h = refl
  load_left false f next a d h = cc

  serve_left : (b : Bool) (g : Request → State) (request : Request) (a d : Option Action) → is_some (option_map g (cond b None (Some request))) ≡ true → cond b a d ≡ d
  serve_left true g request a d h = cc
  serve_left false g request a d h = refl

  only : (status : Status) (ended : Option End) (a : Action) → let s : State = alone status ended in
      act w s (FailSc 0) ≡ None → ((tile : ℕ) → act w s (Begin 0 tile) ≡ None) → IsSome (act w s a)
      → action_by w (record t { status = status }) ended status ≡ Some a
  only Ready ended (Exec zero) f b h = ap exec_unless (unmapped _ _ (conditional_rd (step_of w 0 (record t { status = Ready }))) f)
  only (Writing addr len bytes) ended (Load zero) f b h = load_left (nat_lt (length bytes) len) _ _ (Some (Load 0)) (serve_before ended) h
  only (Writing addr len bytes) None (Serve zero) f b h = serve_left (nat_lt (length bytes) len) _ _ (Some (Load 0)) (Some (Serve 0)) h
  only (Asked call) None (Serve zero) f b h = refl
  only (Left code) None (Serve zero) f b h = refl
  only (Trapped cause pc) None (Serve zero) f b h = refl
  only (Answered value) ended (Return zero) f b h = refl
  only status ended (FailSc zero) f b h = absurd (not_both _ f h)
  only status ended (FailSc (suc k)) f b h = cc
  only status ended (Begin zero tile) f b h = absurd (not_both _ (b tile) h)
  only status ended (Begin (suc k) tile) f b h = cc
  only status ended (Exec zero) f b h = cc
  only status ended (Exec (suc k)) f b h = cc
  only status ended (Load zero) f b h = cc
  only status ended (Load (suc k)) f b h = cc
  only status (Some end) (Serve number) f b h = cc
  only status None (Serve zero) f b h = cc
  only status None (Serve (suc k)) f b h = cc
  only status ended (Return zero) f b h = cc
  only status ended (Return (suc k)) f b h = cc

-- the only legal action, by the threads
none_there : (w : Setup) (s : State) → (length s.threads == 1) ≡ false → legal_action w s ≡ None
unfolding legal_action
none_there w s e = rw e refl

many : (t u : Thread) (ts : List Thread) → (length (t ∷ u ∷ ts) == 1) ≡ false
many t u ts = grind (arith, nat_tests)

pub legal_is : (w : Setup) (s : State) → legal_action w s ≡ action_of w s.threads s.ended
legal_is w s = by_threads s.threads where
  by_threads : (threads : List Thread) → legal_action w (record s { threads = threads }) ≡ action_of w threads s.ended
  by_threads [] = none_there w (record s { threads = [] }) refl
  by_threads (t ∷ []) = by_status w s t t.status s.ended
  by_threads (t ∷ u ∷ ts) = none_there w (record s { threads = t ∷ u ∷ ts }) (many t u ts)

-- the action that is made is legal
found_passes : (p : Action → Bool) (xs : List Action) (a : Action) → find p xs ≡ Some a → p a ≡ true
found_passes p [] a e = cc
found_passes p (x ∷ xs) a e = by_test (found_passes p xs a) (p x) refl e where
  by_test : (find p xs ≡ Some a → p a ≡ true) → (b : Bool) → p x ≡ b → cond b (Some x) (find p xs) ≡ Some a → p a ≡ true
  by_test later true passes e = let same : x ≡ a = cc in rw (← same) passes
  by_test later false fails e = later e

pub made_is_legal : MadeIsLegal
unfolding legal_action
made_is_legal w s a h = by_test (length s.threads == 1 && not (is_legal w s (FailSc 0))) h where
  by_test : (b : Bool) → cond b (first_legal w s) None ≡ Some a → IsSome (act w s a)
  by_test true e = found_passes (is_legal w s) (Exec 0 ∷ Load 0 ∷ Serve 0 ∷ Return 0 ∷ []) a e
  by_test false e = cc

pub legal_is_made : LegalIsMade
legal_is_made w s a one f b h = legal_is w s ∙ by_threads s.threads one f b h where
  by_threads : (threads : List Thread) → length threads ≡ 1 → let s' : State = record s { threads = threads } in
      act w s' (FailSc 0) ≡ None → ((tile : ℕ) → act w s' (Begin 0 tile) ≡ None) → IsSome (act w s' a) → action_of w threads s.ended ≡ Some a
  by_threads [] one f b h = absurd (omega arith)
  by_threads (t ∷ []) one f b h = only w s t t.status s.ended a f b h
  by_threads (t ∷ u ∷ ts) one f b h = absurd (omega arith)

-- so it is never refused
pub not_refused : (w : Setup) (s : State) (a : Action) → legal_action w s ≡ Some a → act w s a ≡ None → ⊥
not_refused w s a h e = none_is_none (act w s a) e (made_is_legal w s a h) where
  none_is_none : (o : Option State) → o ≡ None → IsSome o → ⊥
  none_is_none None e h = cc
  none_is_none (Some s) e h = cc

-- where thread 0 is alone and ready
pub ready_stops : (w : Setup) (s : State) (t : Thread) (rd : ℕ) → s.threads ≡ t ∷ [] → t.status ≡ Ready → conditional_rd (step_of w 0 t) ≡ Some rd → legal_action w s ≡ None
ready_stops w s t rd one ready e = legal_is w s ∙ rw (one, ready, e) refl

others_none : (written : Option Span) (t : Thread) → others_end written (t ∷ []) 0 ≡ t ∷ []
others_none None t = refl
others_none (Some span) t = refl

pub ready_goes : (w : Setup) (s : State) (t : Thread) (change : Change) → s.threads ≡ t ∷ [] → t.status ≡ Ready → conditional_rd (step_of w 0 t) ≡ None
    → executed_by_step s.memory t (step_of w 0 t) ≡ Some change → onward w s ≡ record s { memory = change.memory; threads = change.thread ∷ [] }
ready_goes w s t change one ready e done =
    let legal : legal_action w s ≡ Some (Exec 0) = legal_is w s ∙ rw (one, ready, e) refl in
    let here : slice_get s.threads 0 ≡ Some t = ap (λ ts. slice_get ts 0) one in
    let executes : executed w s.memory 0 t ≡ Some change = ap (executed_by w s.memory 0 t) ready ∙ done in
    rw (legal, here, executes, one, others_none change.written change.thread) refl

-- the same of the thread that is read there
same_thread : (s : State) (u : Thread) → IsAloneReady s → slice_get s.threads 0 ≡ Some u → (s.threads ≡ u ∷ []) × (u.status ≡ Ready)
same_thread s u alone here =
    let first : slice_get s.threads 0 ≡ Some alone.0 = ap (λ ts. slice_get ts 0) alone.1 in
    let same : alone.0 ≡ u = cc in
    (alone.1 ∙ ap (λ t. t ∷ []) same, ap (λ (t : Thread). t.status) (sym same) ∙ alone.2)

pub ready_stopped : (w : Setup) (s : State) (u : Thread) (rd : Option ℕ) → IsAloneReady s → slice_get s.threads 0 ≡ Some u → rd ≡ conditional_rd (step_of w 0 u)
    → is_some rd ≡ true → legal_action w s ≡ None
ready_stopped w s u None alone here e is = cc
ready_stopped w s u (Some rd) alone here e is = let same = same_thread s u alone here in ready_stops w s u rd same.0 same.1 (sym e)

pub ready_made : (w : Setup) (s : State) (u : Thread) (rd : Option ℕ) (change : Change) → IsAloneReady s → slice_get s.threads 0 ≡ Some u → rd ≡ conditional_rd (step_of w 0 u)
    → is_some rd ≡ false → executed_by_step s.memory u (step_of w 0 u) ≡ Some change
    → record s { memory = change.memory; threads = slice_set s.threads 0 change.thread } ≡ onward w s
ready_made w s u (Some rd) change alone here e is done = cc
ready_made w s u None change alone here e is done =
    let same = same_thread s u alone here in
    ap (λ (threads : List Thread). let old : State = s in record old { memory = change.memory; threads = slice_set threads 0 change.thread }) same.0
    ∙ sym (ready_goes w s u change same.0 same.1 (sym e) done)

-- the legal action where there is one thread, and where there isn't
pub alone_is : (w : Setup) (s : State) (t : Thread) → length s.threads ≡ 1 → slice_get s.threads 0 ≡ Some t → legal_action w s ≡ action_by w t s.ended t.status
alone_is w s t one here = legal_is w s ∙ by_threads s.threads one here where
  by_threads : (threads : List Thread) → length threads ≡ 1 → slice_get threads 0 ≡ Some t → action_of w threads s.ended ≡ action_by w t s.ended t.status
  by_threads [] one here = absurd (omega arith)
  by_threads (x ∷ []) one here = let same : x ≡ t = cc in ap (λ (y : Thread). action_by w y s.ended y.status) same
  by_threads (x ∷ y ∷ ts) one here = absurd (omega arith)

pub not_alone : (w : Setup) (s : State) → (length s.threads ≡ 1 → ⊥) → legal_action w s ≡ None
not_alone w s other = none_there w s (grind (arith, nat_tests))

-- a ready thread goes on, unless at a store-conditional
pub goes_ready : (w : Setup) (t : Thread) (ended : Option End) (s : Status) (rd : Option ℕ) → s ≡ Ready → rd ≡ conditional_rd (step_of w 0 t) → is_some rd ≡ false
    → Some (Exec 0) ≡ action_by w t ended s
goes_ready w t ended s None ready found none = rw ready (ap exec_unless found)
goes_ready w t ended s (Some rd) ready found none = cc
