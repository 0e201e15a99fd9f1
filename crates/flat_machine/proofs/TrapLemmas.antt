-- Why a run that ended by a trap did so: the thread's instruction has trapped before.
use Rattle.std.proofs.Common.{◌≡◌, ℕ, ◌<◌, ◌++◌, zero, suc, List, [], ◌∷◌, length, map, Bool, true, false, cond, not, ◌%◌, ◌==◌, subst, refl, sym, ap, ◌∙◌, ◌⊎◌, inl, inr, arith}
use Rattle.std.specs.Prelude.{Option, Some, None, nat_lt, slice_get, slice_set, unwrap_or, option_and_then}
use Rattle.std.specs.Option.{option_map, option_map_or}
use Rattle.std.specs.Ordering.{nat_cmp}
use Rattle.std.specs.FinMap.{FinMap}
use Rattle.sim_base.specs.declared.actions.Action.{Action}
use Rattle.sim_base.specs.declared.actions.Action.TheVariants.{Exec, FailSc, Load, Serve, Return, Begin}
use Rattle.sim_base.specs.declared.ends.Cause.{Cause}
use Rattle.sim_base.specs.declared.ends.End.{End}
use Rattle.sim_base.specs.declared.ends.End.TheVariants.{Trap as TrapEnd, Exit as ExitEnd, Deadlock}
use Rattle.elf_image.specs.Layout.{Setup}
use Rattle.rv_hart.specs.declared.reservations.Span.{Span}
use Rattle.rv_hart.specs.declared.steps.Step.{Step}
use Rattle.rv_hart.specs.declared.steps.Step.TheVariants.{Next, Access, ScFails, Answer, Ask, Write, Exit, Trap}
use Rattle.wire_msg.specs.declared.calls.Call.{Call}
use Rattle.wire_msg.specs.declared.calls.Call.TheVariants.{Spawn, Join as JoinCall, Write as WriteCall, FutexWait, FutexWake, Brk, ExitGroup}
use Rattle.serving.specs.declared.control_data.Fate.{Fate}
use Rattle.serving.specs.declared.control_data.Fate.TheVariants.{Live, Exited}
use Rattle.serving.specs.declared.control_data.Join.{Join}
use Rattle.serving.specs.declared.control_data.Join.TheVariants.{Code, Parked as ParkedJoin, NoThread, Invalid}
use Rattle.serving.specs.declared.control_data.Request.{Request}
use Rattle.serving.specs.declared.control_data.Request.TheVariants.{Call as CallRequest, Exit as ExitRequest, Trap as TrapRequest}
use Rattle.serving.specs.declared.control_data.Waiter.{Waiter}
use Rattle.serving.specs.ControlData.{ControlData}
use Rattle.serving.specs.Join.{join_of}
use Rattle.wire_msg.specs.ErrorNumber.{minus}
use Rattle.serving.specs.Serving.{Served, Woken, Born, Own, answer, park, leave, answered, parked, born, is_full, joined, request_served, call_served, with_end}
use Rattle.flat_machine.specs.declared.threads.Thread.{Thread}
use Rattle.flat_machine.specs.declared.threads.Status.{Status}
use Rattle.flat_machine.specs.declared.threads.Status.TheVariants.{New, Ready, Writing, Asked, Parked, Answered, Left, Trapped}
use Rattle.flat_machine.specs.State.{State, start, with_status, with_thread}
use Rattle.flat_machine.specs.Reservation.{others_end, without_reservation}
use Rattle.flat_machine.specs.Serving.{control_of, word_of, request_of, with_fates, born_threads, woken_threads, with_own, after_serving, after_request}
use Rattle.flat_machine.specs.Action.{Change, act, IsTrapping, step_of, executed_by_step, executed_by, conditional_rd, failed_conditional, failed, failed_by, loaded, loaded_by, returned, returned_by, begun, begun_by, is_vacant, with_change}
use Rattle.flat_machine.specs.Run.{legal_action, after, onward, TrapHasCause}
use Rattle.flat_machine.proofs.RunLemmas.{after-zero, after-suc}
use Rattle.flat_machine.proofs.ActLemmas.{moved_by, executed_by_act, served_by_act}

-- what a thread is doing
abbrev status_at : List Thread → ℕ → Option Status
status_at threads k = option_map (λ t. t.status) (slice_get threads k)

status_there : (threads : List Thread) (k : ℕ) (t : Thread) (status : Status) → slice_get threads k ≡ Some t → t.status ≡ status → status_at threads k ≡ Some status
status_there threads k t status here is = ap (option_map (λ (u : Thread). u.status)) here ∙ ap Some is

status_set : (ts : List Thread) (k j : ℕ) (t : Thread) (status : Status) → status_at (slice_set ts k t) j ≡ Some status
    → (status_at ts j ≡ Some status) ⊎ ((j ≡ k) × (t.status ≡ status))
status_set [] k j t status e = inl e
status_set (x ∷ xs) zero zero t status e = inr (refl, cc)
status_set (x ∷ xs) zero (suc j) t status e = inl e
status_set (x ∷ xs) (suc k) zero t status e = inl e
status_set (x ∷ xs) (suc k) (suc j) t status e = elim (status_set xs k j t status e) [ inl h ↦ inl h | inr h ↦ inr (ap suc h.0, h.1) ]

-- a thread that stands at a trap in the second list does so in the first
abbrev KeepsTraps : List Thread → List Thread → Type 0
KeepsTraps old new = (j : ℕ) (cause : Cause) (pc : ℕ) → status_at new j ≡ Some (Trapped cause pc) → status_at old j ≡ Some (Trapped cause pc)

-- parts of serving
status_with : (ts : List Thread) (k : ℕ) (new : Status) → ((cause : Cause) (pc : ℕ) → new ≡ Trapped cause pc → ⊥) → KeepsTraps ts (with_status ts k new)
status_with ts k new quiet j cause pc e = by_there (slice_get ts k) e where
  by_there : (o : Option Thread) → status_at (option_map_or (λ t. slice_set ts k (record t { status = new })) o ts) j ≡ Some (Trapped cause pc) → status_at ts j ≡ Some (Trapped cause pc)
  by_there None e = e
  by_there (Some t) e = elim (status_set ts k j (record t { status = new }) (Trapped cause pc) e) [ inl h ↦ h | inr h ↦ absurd (quiet cause pc h.1) ]

woken_keep : (ws : List Woken) (ts : List Thread) → KeepsTraps ts (woken_threads ws ts)
woken_keep [] ts j cause pc e = e
woken_keep (x ∷ xs) ts j cause pc e =
    status_with ts x.thread (Answered x.value) (λ c p h. cc) j cause pc (woken_keep xs (with_status ts x.thread (Answered x.value)) j cause pc e)

fates_keep : (ts : List Thread) (fates : List Fate) → KeepsTraps ts (with_fates ts fates)
fates_keep [] fates j cause pc e = e
fates_keep (t ∷ ts) [] j cause pc e = e
fates_keep (t ∷ ts) (Exited code joined ∷ fates) zero cause pc e = cc
fates_keep (t ∷ ts) (Live joiner ∷ fates) zero cause pc e = e
fates_keep (t ∷ ts) (Exited code joined ∷ fates) (suc j) cause pc e = fates_keep ts fates j cause pc e
fates_keep (t ∷ ts) (Live joiner ∷ fates) (suc j) cause pc e = fates_keep ts fates j cause pc e

born_keep : (ts : List Thread) (b : Option Born) → KeepsTraps ts (ts ++ born_threads b)
born_keep [] None j cause pc e = e
born_keep [] (Some b) zero cause pc e = cc
born_keep [] (Some b) (suc j) cause pc e = e
born_keep (t ∷ ts) b zero cause pc e = e
born_keep (t ∷ ts) b (suc j) cause pc e = born_keep ts b j cause pc e

own_keeps : (ts : List Thread) (number : ℕ) (own : Own) → KeepsTraps ts (with_own ts number own)
own_keeps ts number (answer value) = status_with ts number (Answered value) (λ c p h. cc)
own_keeps ts number park = status_with ts number Parked (λ c p h. cc)
own_keeps ts number leave = λ j cause pc e. e

serving_keeps : (s : State) (number : ℕ) (made : Served) → KeepsTraps s.threads (after_serving s number made).threads
unfolding after_serving
serving_keeps s number made j cause pc e =
    let by_fates : List Thread = with_fates s.threads made.control.fates in
    let with_born : List Thread = by_fates ++ born_threads made.born in
    let all_woken : List Thread = woken_threads made.woken with_born in
    fates_keep s.threads made.control.fates j cause pc (born_keep by_fates made.born j cause pc (woken_keep made.woken with_born j cause pc (own_keeps all_woken number made.own j cause pc e)))

-- the end that serving leaves, where there was none, is a trap at a trap's request alone
abbrev NoTrap : Option End → Type 0
NoTrap ended = (number : ℕ) (cause : Cause) (pc : ℕ) → ended ≡ Some (TrapEnd number cause pc) → ⊥

abbrev end_made : Served → Option End
end_made made = (with_end true made).control.ended

one_of : (b : Bool) (x y : Served) → NoTrap (end_made x) → NoTrap (end_made y) → NoTrap (end_made (cond b x y))
one_of true x y p q = p
one_of false x y p q = q

closed_calm : (b : Bool) (ended : Option End) → NoTrap ended → NoTrap (cond b (Some Deadlock) ended)
closed_calm true ended calm = λ number cause pc e. cc
closed_calm false ended calm = calm

none_calm : NoTrap None
none_calm number cause pc e = cc

exit_calm : (b : Bool) (code : ℕ) → NoTrap (cond b (Some (ExitEnd code)) None)
exit_calm true code number cause pc e = cc
exit_calm false code number cause pc e = cc

join_calm : (c : ControlData) (caller target : ℕ) (join : Join) → NoTrap c.ended → NoTrap (end_made (joined c caller target join))
join_calm c caller target (Code code) calm = calm
join_calm c caller target ParkedJoin calm = closed_calm _ c.ended calm
join_calm c caller target NoThread calm = calm
join_calm c caller target Invalid calm = calm

-- control data before the end
abbrev before_end : ControlData → ControlData
before_end c = record c { ended = None }

call_calm : (w : Setup) (c : ControlData) (caller : ℕ) (call : Call) (word : ℕ) → NoTrap (end_made (call_served w (before_end c) caller call word))
call_calm w c caller (Spawn entry arg) word =
    let u : ControlData = before_end c in
    one_of (not (entry % 4 == 0)) (answered u (minus 22)) (cond (is_full w c.fates) (answered u (minus 11)) (born u entry arg)) none_calm
    (one_of (is_full w c.fates) (answered u (minus 11)) (born u entry arg) none_calm none_calm)
call_calm w c caller (JoinCall target) word = join_calm (before_end c) caller target (join_of c.fates caller target) none_calm
call_calm w c caller (WriteCall bytes) word = none_calm
call_calm w c caller (FutexWait addr value) word =
    let u : ControlData = before_end c in
    let last : Waiter = record { thread = caller; addr = addr } in
    one_of (word == value) (parked (record u { waiters = c.waiters ++ last ∷ [] })) (answered u (minus 11)) (closed_calm _ None none_calm) none_calm
call_calm w c caller (FutexWake addr count) word = none_calm
call_calm w c caller (Brk addr) word = none_calm
call_calm w c caller (ExitGroup code) word = λ number cause pc e. cc

-- a request's end is a trap's where it is a trap's request
abbrev TrapOf : ℕ → Request → Option End → Type 0
TrapOf caller request ended = (number : ℕ) (cause : Cause) (pc : ℕ) → ended ≡ Some (TrapEnd number cause pc) → (number ≡ caller) × (request ≡ TrapRequest cause pc)

request_trap : (w : Setup) (c : ControlData) (caller : ℕ) (request : Request) (word : ℕ) → TrapOf caller request (end_made (request_served w (before_end c) caller request word))
request_trap w c caller (CallRequest call) word = λ number cause pc e. absurd (call_calm w c caller call word number cause pc e)
request_trap w c caller (ExitRequest code) word = λ number cause pc e. absurd (closed_calm _ _ (exit_calm _ code) number cause pc e)
request_trap w c caller (TrapRequest x at) word = λ number cause pc e. (cc, cc)

-- a thread that asks for a trap to be served stands at it
stands_trapped : (status : Status) (cause : Cause) (pc : ℕ) → request_of status ≡ Some (TrapRequest cause pc) → status ≡ Trapped cause pc
stands_trapped (Writing addr len bytes) cause pc e = by_left (nat_lt (length bytes) len) e where
  by_left : (b : Bool) → cond b None (Some (CallRequest (WriteCall bytes))) ≡ Some (TrapRequest cause pc) → Writing addr len bytes ≡ Trapped cause pc
  by_left true e = cc
  by_left false e = cc
stands_trapped (Trapped x at) cause pc e = cc
stands_trapped (Asked call) cause pc e = cc
stands_trapped (Left code) cause pc e = cc
stands_trapped _ cause pc e = cc

-- a move leaves no thread at a trap
abbrev is_trapped : Status → Bool
is_trapped (Trapped cause pc) = true
is_trapped _ = false

not_trapped : (status : Status) (cause : Cause) (pc : ℕ) → is_trapped status ≡ false → status ≡ Trapped cause pc → ⊥
not_trapped status cause pc quiet is = let yes : is_trapped status ≡ true = ap is_trapped is in cc

quiet_as : (x new : Thread) → Some x ≡ Some new → is_trapped x.status ≡ false → is_trapped new.status ≡ false
quiet_as x new e quiet = let same : x ≡ new = cc in rw (← same) quiet

failed_quiet : (w : Setup) (number : ℕ) (t new : Thread) (status : Status) → t.status ≡ status → failed_by w number t status ≡ Some new → is_trapped new.status ≡ false
failed_quiet w number t new Ready is e = by_rd (conditional_rd (step_of w number t)) e where
  by_rd : (rd : Option ℕ) → option_map (failed_conditional t) rd ≡ Some new → is_trapped new.status ≡ false
  by_rd None e = cc
  by_rd (Some rd) e = quiet_as (failed_conditional t rd) new e (ap is_trapped is)
failed_quiet w number t new _ is e = cc

loaded_quiet : (memory : FinMap nat_cmp ℕ) (t new : Thread) (status : Status) → loaded_by memory t status ≡ Some new → is_trapped new.status ≡ false
loaded_quiet memory t new (Writing addr len bytes) e = by_left (nat_lt (length bytes) len) _ e where
  by_left : (b : Bool) (more : List ℕ) → cond b (Some (record t { status = Writing addr len more })) None ≡ Some new → is_trapped new.status ≡ false
  by_left true more e = quiet_as (record t { status = Writing addr len more }) new e refl
  by_left false more e = cc
loaded_quiet memory t new _ e = cc

returned_quiet : (t new : Thread) (status : Status) → returned_by t status ≡ Some new → is_trapped new.status ≡ false
returned_quiet t new (Answered value) e = quiet_as _ new e refl
returned_quiet t new _ e = cc

begun_quiet : (w : Setup) (tile : ℕ) (t new : Thread) (vacant : Bool) (status : Status) → begun_by w tile t vacant status ≡ Some new → is_trapped new.status ≡ false
begun_quiet w tile t new true (New entry arg) e = quiet_as _ new e refl
begun_quiet w tile t new true _ e = cc
begun_quiet w tile t new false status e = cc

moved_keeps : (s : State) (number : ℕ) (new : Thread) → is_trapped new.status ≡ false → KeepsTraps s.threads (with_thread s number new).threads
moved_keeps s number new quiet j cause pc e =
    elim (status_set s.threads number j new (Trapped cause pc) e) [ inl h ↦ h | inr h ↦ absurd (not_trapped new.status cause pc quiet h.1) ]

-- an instruction that leaves its thread at a trap has trapped
step_traps : (memory : FinMap nat_cmp ℕ) (t : Thread) (step : Step) (change : Change) (cause : Cause) (pc : ℕ) → t.status ≡ Ready
    → executed_by_step memory t step ≡ Some change → change.thread.status ≡ Trapped cause pc → (t.pc ≡ pc) × (step ≡ Trap cause)
step_traps memory t step change cause pc ready e is = by_step step e where
  done_by : (x : Change) → Some x ≡ Some change → x.thread.status ≡ Trapped cause pc
  done_by x e = let same : x ≡ change = cc in ap (λ (c : Change). c.thread.status) same ∙ is

  quietly : (x : Change) → Some x ≡ Some change → is_trapped x.thread.status ≡ false → ⊥
  quietly x e quiet = not_trapped x.thread.status cause pc quiet (done_by x e)

  by_step : (step : Step) → executed_by_step memory t step ≡ Some change → (t.pc ≡ pc) × (step ≡ Trap cause)
  by_step (Next class rd value next) e = absurd (quietly _ e (ap is_trapped ready))
  by_step (Access access) e = absurd (quietly _ e (ap is_trapped ready))
  by_step (ScFails rd) e = cc
  by_step (Answer value) e = absurd (quietly _ e refl)
  by_step (Ask call) e = absurd (quietly _ e refl)
  by_step (Write addr len) e = absurd (quietly _ e refl)
  by_step (Exit code) e = absurd (quietly _ e refl)
  by_step (Trap x) e = let at : Trapped x t.pc ≡ Trapped cause pc = done_by _ e in (cc, cc)

executed_traps : (w : Setup) (memory : FinMap nat_cmp ℕ) (number : ℕ) (t : Thread) (status : Status) (change : Change) (cause : Cause) (pc : ℕ) → t.status ≡ status
    → executed_by w memory number t status ≡ Some change → change.thread.status ≡ Trapped cause pc → (t.status ≡ Ready) × (t.pc ≡ pc) × (step_of w number t ≡ Trap cause)
executed_traps w memory number t Ready change cause pc ready e is = let made = step_traps memory t (step_of w number t) change cause pc ready e is in (ready, made.0, made.1)
executed_traps w memory number t _ change cause pc ready e is = cc

-- others lose their reservations alone
map_status : (span : Span) (ts : List Thread) (j : ℕ) → status_at (map (without_reservation span) ts) j ≡ status_at ts j
map_status span [] j = refl
map_status span (t ∷ ts) zero = refl
map_status span (t ∷ ts) (suc j) = map_status span ts j

others_keep : (written : Option Span) (ts : List Thread) (number j : ℕ) (status : Status) → status_at (others_end written ts number) j ≡ Some status → status_at ts j ≡ Some status
others_keep None ts number j status e = e
others_keep (Some span) ts number j status e = by_own (slice_get ts number) refl e where
  by_own : (o : Option Thread) → slice_get ts number ≡ o → status_at (option_map_or (λ own. slice_set (map (without_reservation span) ts) number own) o ts) j ≡ Some status → status_at ts j ≡ Some status
  by_own None here e = e
  by_own (Some own) here e = elim (status_set (map (without_reservation span) ts) number j own status e) [
    | inl h ↦ sym (map_status span ts j) ∙ h
    | inr h ↦ ap (status_at ts) h.0 ∙ status_there ts number own status here h.1
  ]

-- one action: a thread stands at a trap that did so before, or whose instruction has just trapped; and an end by a
-- trap is an old one, or that of a thread that stood at it
record Explains (w : Setup) (s next : State) : Type 0 where
  trapped : (number : ℕ) (cause : Cause) (pc : ℕ) → status_at next.threads number ≡ Some (Trapped cause pc)
      → (status_at s.threads number ≡ Some (Trapped cause pc)) ⊎ IsTrapping w s number cause pc
  ended : (number : ℕ) (cause : Cause) (pc : ℕ) → next.ended ≡ Some (TrapEnd number cause pc)
      → (s.ended ≡ Some (TrapEnd number cause pc)) ⊎ (status_at s.threads number ≡ Some (Trapped cause pc))

explains_move : (w : Setup) (s next : State) (number : ℕ) (new : Thread) → with_thread s number new ≡ next → is_trapped new.status ≡ false → Explains w s next
explains_move w s next number new gives quiet = subst (λ x. Explains w s x) gives (record {
  trapped = λ j cause pc e. inl (moved_keeps s number new quiet j cause pc e);
  ended = λ j cause pc e. inl e;
})

explains_change : (w : Setup) (s next : State) (number : ℕ) (old : Thread) (change : Change) → slice_get s.threads number ≡ Some old
    → executed_by w s.memory number old old.status ≡ Some change → with_change s number change ≡ next → Explains w s next
explains_change w s next number old change here executes gives = subst (λ x. Explains w s x) gives (record {
  trapped = λ j cause pc e. by_place j cause pc (status_set s.threads number j change.thread (Trapped cause pc) (others_keep change.written (slice_set s.threads number change.thread) number j (Trapped cause pc) e));
  ended = λ j cause pc e. inl e;
}) where
  by_place : (j : ℕ) (cause : Cause) (pc : ℕ) → (status_at s.threads j ≡ Some (Trapped cause pc)) ⊎ ((j ≡ number) × (change.thread.status ≡ Trapped cause pc))
      → (status_at s.threads j ≡ Some (Trapped cause pc)) ⊎ IsTrapping w s j cause pc
  by_place j cause pc (inl h) = inl h
  by_place j cause pc (inr h) =
      let made = executed_traps w s.memory number old old.status change cause pc refl executes h.1 in
      inr (rw h.0 (record { thread = old; is_thread = here; is_ready = made.0; is_there = made.1; traps = made.2 }))

end_is : (s : State) (number : ℕ) (made : Served) → (after_serving s number made).ended ≡ made.control.ended
unfolding after_serving
end_is s number made = refl

explains_serving : (w : Setup) (s next : State) (number : ℕ) (old : Thread) (request : Request) → s.ended ≡ None → slice_get s.threads number ≡ Some old
    → request_of old.status ≡ Some request → after_request w s number request ≡ next → Explains w s next
explains_serving w s next number old request goes_on here asks gives = subst (λ x. Explains w s x) gives (record {
  trapped = λ j cause pc e. inl (serving_keeps s number _ j cause pc e);
  ended = λ j cause pc e. let trap = request_trap w (control_of s) number request (word_of s.memory request) j cause pc (served_end s.ended goes_on cause pc j e) in
      inr (rw trap.0 (status_there s.threads number old (Trapped cause pc) here (stands_trapped old.status cause pc (asks ∙ ap Some trap.1))));
}) where
  served_end : (ended : Option End) → ended ≡ None → (cause : Cause) (pc j : ℕ) → (after_request w (record s { ended = ended }) number request).ended ≡ Some (TrapEnd j cause pc)
      → end_made (request_served w (before_end (control_of s)) number request (word_of s.memory request)) ≡ Some (TrapEnd j cause pc)
  served_end None is cause pc j e = sym (end_is (record s { ended = None }) number _) ∙ e
  served_end (Some end) is cause pc j e = cc

explains : (w : Setup) (s : State) (a : Action) (next : State) → act w s a ≡ Some next → Explains w s next
explains w s (Exec number) next e = let made = executed_by_act w s number next e in explains_change w s next number made.old made.change made.here made.executes made.gives
explains w s (FailSc number) next e = let made = moved_by s number (failed w number) next e in
    explains_move w s next number made.new made.gives (failed_quiet w number made.old made.new made.old.status refl made.moves)
explains w s (Load number) next e = let made = moved_by s number (loaded s.memory) next e in
    explains_move w s next number made.new made.gives (loaded_quiet s.memory made.old made.new made.old.status made.moves)
explains w s (Serve number) next e = let made = served_by_act w s number next e in
    explains_serving w s next number made.old made.request made.goes_on made.here made.asks made.gives
explains w s (Return number) next e = let made = moved_by s number returned next e in
    explains_move w s next number made.new made.gives (returned_quiet made.old made.new made.old.status made.moves)
explains w s (Begin number tile) next e = let made = moved_by s number (begun w s tile) next e in
    explains_move w s next number made.new made.gives (begun_quiet w tile made.old made.new (is_vacant w s tile) made.old.status made.moves)

-- in an earlier state of the run the thread's instruction traps so
abbrev Caused : Setup → ℕ → ℕ → Cause → ℕ → Type 0
Caused w n number cause pc = (k : ℕ) × (k < n) × IsTrapping w (after w k) number cause pc

later : (w : Setup) (n number : ℕ) (cause : Cause) (pc : ℕ) → Caused w n number cause pc → Caused w (suc n) number cause pc
later w n number cause pc h = (h.0, omega arith, h.2)

-- every thread that stands at a trap, and an end by a trap, have their causes
record Explained (w : Setup) (n : ℕ) (s : State) : Type 0 where
  trapped : (number : ℕ) (cause : Cause) (pc : ℕ) → status_at s.threads number ≡ Some (Trapped cause pc) → Caused w n number cause pc
  ended : (number : ℕ) (cause : Cause) (pc : ℕ) → s.ended ≡ Some (TrapEnd number cause pc) → Caused w n number cause pc

unchanged : (w : Setup) (n : ℕ) (s : State) → Explained w n s → Explained w (suc n) s
unchanged w n s h = record {
  trapped = λ number cause pc e. later w n number cause pc (h.trapped number cause pc e);
  ended = λ number cause pc e. later w n number cause pc (h.ended number cause pc e);
}

one_more : (w : Setup) (n : ℕ) (next : State) → Explained w n (after w n) → Explains w (after w n) next → Explained w (suc n) next
one_more w n next h x = record {
  trapped = λ number cause pc e. elim (x.trapped number cause pc e) [
    | inl old ↦ later w n number cause pc (h.trapped number cause pc old)
    | inr now ↦ (n, omega arith, now)
  ];
  ended = λ number cause pc e. elim (x.ended number cause pc e) [
    | inl old ↦ later w n number cause pc (h.ended number cause pc old)
    | inr stood ↦ later w n number cause pc (h.trapped number cause pc stood)
  ];
}

onward_explained : (w : Setup) (n : ℕ) → Explained w n (after w n) → Explained w (suc n) (onward w (after w n))
onward_explained w n h = by_action (legal_action w (after w n)) where
  by_next : (a : Action) (o : Option State) → act w (after w n) a ≡ o → Explained w (suc n) (unwrap_or o (after w n))
  by_next a None e = unchanged w n (after w n) h
  by_next a (Some next) e = one_more w n next h (explains w (after w n) a next e)

  by_action : (o : Option Action) → Explained w (suc n) (unwrap_or (option_and_then (act w (after w n)) o) (after w n))
  by_action None = unchanged w n (after w n) h
  by_action (Some a) = by_next a (act w (after w n) a) refl

at_start : (w : Setup) → Explained w 0 (start w)
at_start w = record {
  trapped = λ number cause pc e. absurd (none_trapped number cause pc e);
  ended = λ number cause pc e. cc;
} where
  none_trapped : (number : ℕ) (cause : Cause) (pc : ℕ) → status_at (start w).threads number ≡ Some (Trapped cause pc) → ⊥
  none_trapped zero cause pc e = cc
  none_trapped (suc k) cause pc e = cc

explained : (w : Setup) (n : ℕ) → Explained w n (after w n)
explained w zero = subst (λ s. Explained w 0 s) (sym (after-zero w)) (at_start w)
explained w (suc n) = subst (λ s. Explained w (suc n) s) (sym (after-suc w n)) (onward_explained w n (explained w n))

pub trap_has_cause : TrapHasCause
trap_has_cause w n number cause pc e = (explained w n).ended number cause pc e
