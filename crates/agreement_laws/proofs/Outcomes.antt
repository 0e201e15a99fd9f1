-- For every request that the control server serves: all is kept, and the active threads are the epoch's.
use Rattle.std.proofs.Common.{◌≡◌, ℕ, ◌+◌, ◌<◌, ◌%◌, Bool, true, false, not, cond, ◌&&◌, List, [], ◌∷◌, ◌++◌, length, slice_get, slice_set, Option, Some, None, refl, sym, ap, ◌∙◌, subst, is_some}
use Rattle.std.specs.Prelude.{◌==◌, slice_index}
use Rattle.std.specs.Option.{option_map_or}
use Rattle.sim_base.specs.declared.ends.End.{End}
use Rattle.sim_base.specs.declared.ends.End.TheVariants.{Exit as ExitEnd, Trap as TrapEnd}
use Rattle.elf_image.specs.Layout.{Setup}
use Rattle.wire_msg.specs.ErrorNumber.{minus}
use Rattle.wire_msg.specs.declared.messages.Msg.{Msg}
use Rattle.wire_msg.specs.declared.calls.Call.{Call as CallOf}
use Rattle.wire_msg.specs.declared.calls.Call.TheVariants.{Spawn, Join as JoinCall, Write, FutexWait, FutexWake, Brk, ExitGroup}
use Rattle.serving.specs.declared.control_data.Fate.TheVariants.{Live, Exited}
use Rattle.serving.specs.declared.control_data.Join.{Join}
use Rattle.serving.specs.declared.control_data.Join.TheVariants.{Code, Parked as ParkedJoin, NoThread, Invalid}
use Rattle.serving.specs.declared.control_data.Request.{Request}
use Rattle.serving.specs.declared.control_data.Request.TheVariants.{Call as CallRequest, Exit as ExitRequest, Trap as TrapRequest}
use Rattle.serving.specs.ControlData.{ControlData, is_live, is_parked}
use Rattle.serving.specs.Join.{join_of, joiner_of}
use Rattle.serving.specs.Serving.{Served, answered, parked, born, ended, joined, wake_served, is_full, output_with, write_answer, break_after, closed_end, end_of_exit, with_end, serve}
use Rattle.clock_policy.specs.Epoch.{Epoch}
use Rattle.flat_machine.specs.declared.threads.Status.TheVariants.{Trapped as FlatTrapped}
use Rattle.flat_machine.specs.State.{State as Flat}
use Rattle.control_server.specs.Control.{Control, Waiting, Check, is_active, is_live_thread}
use Rattle.control_server.specs.Deliver.{request_of as request_of_check}
use Rattle.control_server.specs.Serve.{epochs_served, leave_unless, freest_host, join_all, joined_by, left_by}
use Rattle.event_journal.specs.State.{State}
use Rattle.node_machine.specs.declared.nodes.Node.{Node}
use Rattle.agreement_laws.specs.Phases.{Key, word, ending}
use Rattle.agreement_laws.specs.Sides.{Side, side_of, keys_of, targets_of}
use Rattle.agreement_laws.specs.Kept.{Kept}
use Rattle.agreement_laws.proofs.Moves.{same_is}
use Rattle.agreement_laws.proofs.AfterServing.{IsLiveIn}
use Rattle.agreement_laws.proofs.Joins.{is_empty, parked_is, words_of, words_here, targets_here}
use Rattle.agreement_laws.proofs.Threads.{get_set_here}
use Rattle.agreement_laws.proofs.Callers.{IsAsker, asks_first, asks_checked, asker_from, checker_from}
use Rattle.agreement_laws.proofs.Wakes.{live_in, all_woken}
use Rattle.agreement_laws.proofs.Births.{who_trapped, who_leaves, born_moves, joined_moves, fates_are}
use Rattle.agreement_laws.proofs.Serves.{IsServed, asker_lives, asker_keys, keys_same, exited_target, serves_answered, serves_wake, serves_born, serves_joined}
use Rattle.agreement_laws.proofs.ServesParked.{parks, with_waiter, with_join, both_none, live_target, within, serves_waits, serves_joins}
use Rattle.agreement_laws.proofs.ServesEnds.{exits_to, leaver_lives, serves_exit, serves_end, serves_trap}

-- WHO IS ACTIVE
pub live_active : (c : ControlData) (u : ℕ) → IsLiveIn c.fates u → keys_of c u ≡ [] → is_active c u ≡ true
live_active c u live none =
    let a : is_live_thread c u ≡ true = ap (λ o. option_map_or is_live o false) live.1 in
    let b : is_parked c u ≡ false = parked_is c u ∙ ap (λ (ks : List Key). not (is_empty ks)) none in
    ap (λ x. x && not (is_parked c u)) a ∙ ap not b

never : (x : Bool) → (x && false) ≡ false
never true = refl
never false = refl

parked_idle : (c : ControlData) (u : ℕ) (key : Key) → keys_of c u ≡ key ∷ [] → is_active c u ≡ false
parked_idle c u key one =
    let b : is_parked c u ≡ true = parked_is c u ∙ ap (λ (ks : List Key). not (is_empty ks)) one in
    ap (λ x. is_live_thread c u && not x) b ∙ never (is_live_thread c u)

gone_idle : (c : ControlData) (u code : ℕ) (joined : Bool) → slice_get c.fates u ≡ Some (Exited code joined) → is_active c u ≡ false
gone_idle c u code joined e = ap (λ o. option_map_or is_live o false && not (is_parked c u)) e

-- THE OUTCOME
abbrev pub Outcome : Setup → State Node Msg → Control → Flat → Waiting → List Waiting → Option Check → List ℕ → Served → Type 0
Outcome w s c f q rest check free made = IsServed w s c f q rest check free made (epochs_served made.control q.thread made c.epochs)

stays_on : (P : Epoch → Type 0) (b : Bool) (u : ℕ) (e : Epoch) → b ≡ true → P e → P (leave_unless b u e)
stays_on P b u e active served = subst (λ z. P (leave_unless z u e)) (sym active) served

goes_off : (P : Epoch → Type 0) (b : Bool) (u : ℕ) (e : Epoch) → b ≡ false → P (left_by u e) → P (leave_unless b u e)
goes_off P b u e idle served = subst (λ z. P (leave_unless z u e)) (sym idle) served

asker_active : {w : Setup} {s : State Node Msg} {c : Control} {f : Flat} (k : Kept w s c f) (u : ℕ) (call : CallOf) (rest : List Waiting) (check : Option Check) (a : IsAsker w c u call rest check (k.phase u)) → is_active c.control u ≡ true
asker_active {w} {s} {c} {f} k u call rest check a = live_active c.control u (subst (λ fs. IsLiveIn fs u) (sym (fates_are k)) (asker_lives k u call rest check a)) (asker_keys k u call rest check a)

-- answered alone
answered_outcome : {w : Setup} {s : State Node Msg} {c : Control} {f : Flat} (k : Kept w s c f) (q : Waiting) (call : CallOf) (rest : List Waiting) (check : Option Check) (a : IsAsker w c q.thread call rest check (k.phase q.thread))
    (free : List ℕ) (after : ControlData) (value : ℕ) → q.from ≡ slice_index c.callers q.thread → after.fates ≡ c.control.fates → after.waiters ≡ c.control.waiters → after.ended ≡ c.control.ended
    → Outcome w s c f q rest check free (answered after value)
answered_outcome {w} {s} {c} {f} k q call rest check a free after value from fates waiters same =
    let u : ℕ = q.thread in
    let lives : IsLiveIn after.fates u = subst (λ fs. IsLiveIn fs u) (sym (fates ∙ fates_are k)) (asker_lives k u call rest check a) in
    stays_on (IsServed w s c f q rest check free (answered after value)) (is_active after u) u c.epochs (live_active after u lives (keys_same c.control after u fates waiters ∙ asker_keys k u call rest check a)) (serves_answered k q call rest check a free after value from fates waiters same)

-- a wait whose word was read
wait_outcome_by : {w : Setup} {s : State Node Msg} {c : Control} {f : Flat} (k : Kept w s c f) (check : Check) (free : List ℕ) (same : Bool) → c.checking ≡ Some check → c.control.ended ≡ None
    → Outcome w s c f (request_of_check check) c.backlog None free (with_end true (cond same (parked (with_waiter c.control check.thread check.addr)) (answered c.control (minus 11))))
wait_outcome_by {w} {s} {c} {f} k check free true e none =
    let u : ℕ = check.thread in
    let call : CallOf = FutexWait check.addr check.value in
    let a = asks_checked k check e in
    let end : Option End = closed_end true (with_waiter c.control u check.addr) in
    let keys = both_none (words_of c.control.waiters u) (targets_of u 0 c.control.fates) (asker_keys k u call c.backlog None a) in
    let one : keys_of (with_waiter c.control u check.addr) u ≡ word check.addr ∷ [] =
    ap (λ ks. ks ++ targets_of u 0 c.control.fates) (words_here c.control.waiters u check.addr keys.0) ∙ ap (λ ks. word check.addr ∷ ks) keys.1 in
    goes_off (IsServed w s c f (request_of_check check) c.backlog None free (parks (with_waiter c.control u check.addr) end)) (is_active (with_waiter c.control u check.addr) u) u c.epochs (parked_idle (with_waiter c.control u check.addr) u (word check.addr) one) (serves_waits k (request_of_check check) call c.backlog None a free check.addr end none)
wait_outcome_by {w} {s} {c} {f} k check free false e none =
    answered_outcome k (request_of_check check) (FutexWait check.addr check.value) c.backlog None (asks_checked k check e) free c.control (minus 11) (sym (checker_from k check e)) refl refl refl

pub wait_outcome : {w : Setup} {s : State Node Msg} {c : Control} {f : Flat} (k : Kept w s c f) (check : Check) (free : List ℕ) (held : ℕ) → c.checking ≡ Some check → c.control.ended ≡ None
    → Outcome w s c f (request_of_check check) c.backlog None free (serve w c.control check.thread (CallRequest (FutexWait check.addr check.value)) held true)
wait_outcome k check free held e none = wait_outcome_by k check free (held == check.value) e none

-- a spawn
spawn_outcome : {w : Setup} {s : State Node Msg} {c : Control} {f : Flat} (k : Kept w s c f) (q : Waiting) (rest : List Waiting) (free : List ℕ) (entry arg : ℕ) (odd full : Bool) → c.backlog ≡ q ∷ rest → q.request ≡ CallRequest (Spawn entry arg)
    → freest_host c.free < w.config.hosts
    → Outcome w s c f q rest c.checking free (with_end true (cond odd (answered c.control (minus 22)) (cond full (answered c.control (minus 11)) (born c.control entry arg))))
spawn_outcome {w} {s} {c} {f} k q rest free entry arg true full e is low =
    answered_outcome k q (Spawn entry arg) rest c.checking (asks_first k q rest (Spawn entry arg) e is) free c.control (minus 22) (sym (asker_from k q rest (Spawn entry arg) e is)) refl refl refl
spawn_outcome {w} {s} {c} {f} k q rest free entry arg false true e is low =
    answered_outcome k q (Spawn entry arg) rest c.checking (asks_first k q rest (Spawn entry arg) e is) free c.control (minus 11) (sym (asker_from k q rest (Spawn entry arg) e is)) refl refl refl
spawn_outcome {w} {s} {c} {f} k q rest free entry arg false false e is low =
    let k1 = born_moves k free (freest_host c.free) entry arg q.time 0 low in
    stays_on (IsServed w s c f q rest c.checking free (born c.control entry arg)) (is_active (born c.control entry arg).control q.thread) q.thread (joined_by (length c.control.fates) c.epochs) (asker_active k1 q.thread (Spawn entry arg) rest c.checking (asks_first k1 q rest (Spawn entry arg) e is)) (serves_born k q rest entry arg free e is low)

-- a join
join_outcome : {w : Setup} {s : State Node Msg} {c : Control} {f : Flat} (k : Kept w s c f) (q : Waiting) (rest : List Waiting) (free : List ℕ) (target : ℕ) (join : Join) → c.backlog ≡ q ∷ rest → q.request ≡ CallRequest (JoinCall target)
    → c.control.ended ≡ None → join_of c.control.fates q.thread target ≡ join → Outcome w s c f q rest c.checking free (with_end true (joined c.control q.thread target join))
join_outcome {w} {s} {c} {f} k q rest free target (Code code) e is none comes =
    let k1 = joined_moves k target code (exited_target q.thread target code (slice_get c.control.fates target) comes) in
    stays_on (IsServed w s c f q rest c.checking free (joined c.control q.thread target (Code code))) (is_active (joined c.control q.thread target (Code code)).control q.thread) q.thread c.epochs (asker_active k1 q.thread (JoinCall target) rest c.checking (asks_first k1 q rest (JoinCall target) e is)) (serves_joined k q rest target code free e is comes)
join_outcome {w} {s} {c} {f} k q rest free target ParkedJoin e is none comes =
    let u : ℕ = q.thread in
    let a = asks_first k q rest (JoinCall target) e is in
    let end : Option End = closed_end true (with_join c.control u target) in
    let keys = both_none (words_of c.control.waiters u) (targets_of u 0 c.control.fates) (asker_keys k u (JoinCall target) rest c.checking a) in
    let low : target < length c.control.fates = within c.control.fates target (Live None) (live_target u target (slice_get c.control.fates target) comes) in
    let one : keys_of (with_join c.control u target) u ≡ ending (0 + target) ∷ [] =
    ap (λ ks. ks ++ targets_of u 0 (with_join c.control u target).fates) keys.0 ∙ targets_here c.control.fates u 0 target (Live (Some u)) keys.1 low (same_is u) in
    goes_off (IsServed w s c f q rest c.checking free (parks (with_join c.control u target) end)) (is_active (with_join c.control u target) u) u c.epochs (parked_idle (with_join c.control u target) u (ending (0 + target)) one) (serves_joins k q (JoinCall target) rest c.checking a free target end none comes)
join_outcome {w} {s} {c} {f} k q rest free target NoThread e is none comes =
    answered_outcome k q (JoinCall target) rest c.checking (asks_first k q rest (JoinCall target) e is) free c.control (minus 3) (sym (asker_from k q rest (JoinCall target) e is)) refl refl refl
join_outcome {w} {s} {c} {f} k q rest free target Invalid e is none comes =
    answered_outcome k q (JoinCall target) rest c.checking (asks_first k q rest (JoinCall target) e is) free c.control (minus 22) (sym (asker_from k q rest (JoinCall target) e is)) refl refl refl

-- an exit
exit_outcome : {w : Setup} {s : State Node Msg} {c : Control} {f : Flat} (k : Kept w s c f) (q : Waiting) (rest : List Waiting) (free : List ℕ) (code : ℕ) (end : Option End) → c.backlog ≡ q ∷ rest → q.request ≡ ExitRequest code → c.control.ended ≡ None
    → Outcome w s c f q rest c.checking free (exits_to c.control q.thread code (joiner_of c.control.fates q.thread) end)
exit_outcome {w} {s} {c} {f} k q rest free code end e is none =
    let u : ℕ = q.thread in
    let joiner : Option ℕ = joiner_of c.control.fates u in
    let made : Served = exits_to c.control u code joiner end in
    let gone : slice_get made.control.fates u ≡ Some (Exited code (is_some joiner)) =
    get_set_here c.control.fates u (Exited code (is_some joiner)) (Live joiner) (leaver_lives k q rest code (who_leaves k q rest code e is)) in
    goes_off (IsServed w s c f q rest c.checking free made) (is_active made.control u) u (join_all made.woken c.epochs) (gone_idle made.control u code (is_some joiner) gone) (serves_exit k q rest code free end e is none joiner refl)

-- whether a request is a wait, which is checked first
abbrev pub is_wait : Request → Bool
is_wait (CallRequest (FutexWait addr value)) = true
is_wait _ = false

-- EVERY OTHER REQUEST
pub request_outcome : {w : Setup} {s : State Node Msg} {c : Control} {f : Flat} (k : Kept w s c f) (q : Waiting) (rest : List Waiting) (free : List ℕ) (request : Request) → c.backlog ≡ q ∷ rest → q.request ≡ request → is_wait request ≡ false
    → c.control.ended ≡ None → freest_host c.free < w.config.hosts → Outcome w s c f q rest c.checking free (serve w c.control q.thread request 0 true)
request_outcome {w} {s} {c} {f} k q rest free (CallRequest (Spawn entry arg)) e is plain none low = spawn_outcome k q rest free entry arg (not (entry % 4 == 0)) (is_full w c.control.fates) e is low
request_outcome {w} {s} {c} {f} k q rest free (CallRequest (JoinCall target)) e is plain none low = join_outcome k q rest free target (join_of c.control.fates q.thread target) e is none refl
request_outcome {w} {s} {c} {f} k q rest free (CallRequest (Write bytes)) e is plain none low =
    answered_outcome k q (Write bytes) rest c.checking (asks_first k q rest (Write bytes) e is) free (record c.control { output = output_with c.control.output bytes }) (write_answer c.control.output bytes)
    (sym (asker_from k q rest (Write bytes) e is)) refl refl refl
request_outcome {w} {s} {c} {f} k q rest free (CallRequest (FutexWait addr value)) e is plain none low = cc
request_outcome {w} {s} {c} {f} k q rest free (CallRequest (FutexWake addr count)) e is plain none low =
    let k1 = all_woken w addr q.time count s c f k in
    stays_on (IsServed w s c f q rest c.checking free (wake_served c.control addr count)) (is_active (wake_served c.control addr count).control q.thread) q.thread (join_all (wake_served c.control addr count).woken c.epochs) (asker_active k1 q.thread (FutexWake addr count) rest c.checking (asks_first k1 q rest (FutexWake addr count) e is)) (serves_wake k q rest addr count free e is)
request_outcome {w} {s} {c} {f} k q rest free (CallRequest (Brk addr)) e is plain none low =
    answered_outcome k q (Brk addr) rest c.checking (asks_first k q rest (Brk addr) e is) free (record c.control { heap_break = break_after w c.control.heap_break addr }) (break_after w c.control.heap_break addr)
    (sym (asker_from k q rest (Brk addr) e is)) refl refl refl
request_outcome {w} {s} {c} {f} k q rest free (CallRequest (ExitGroup code)) e is plain none low =
    let a = asks_first k q rest (ExitGroup code) e is in
    stays_on (IsServed w s c f q rest c.checking free (ended c.control (ExitEnd code))) (is_active (ended c.control (ExitEnd code)).control q.thread) q.thread c.epochs (asker_active k q.thread (ExitGroup code) rest c.checking a) (serves_end k q (ExitGroup code) rest c.checking a free (ExitEnd code))
request_outcome {w} {s} {c} {f} k q rest free (ExitRequest code) e is plain none low =
    let u : ℕ = q.thread in
    let joiner : Option ℕ = joiner_of c.control.fates u in
    let after : ControlData = record c.control {
      fates = slice_set c.control.fates u (Exited code (is_some joiner));
      ended = end_of_exit (slice_set c.control.fates u (Exited code (is_some joiner))) code;
    } in
    exit_outcome k q rest free code (closed_end true after) e is none
request_outcome {w} {s} {c} {f} k q rest free (TrapRequest cause pc) e is plain none low =
    let u : ℕ = q.thread in
    let a = who_trapped k q rest cause pc e is in
    let old = k.sides u 0 ∙ ap (side_of w u 0) a.phase in
    let lives : IsLiveIn c.control.fates u = subst (λ fs. IsLiveIn fs u) (sym (fates_are k)) (live_in f u (FlatTrapped cause a.h.pc) tt (ap (λ (z : Side). z.status) old)) in
    stays_on (IsServed w s c f q rest c.checking free (ended c.control (TrapEnd u cause pc))) (is_active c.control u) u c.epochs (live_active c.control u lives (ap (λ (z : Side). z.keys) old)) (serves_trap k q rest cause pc free (TrapEnd u cause pc) e is)
