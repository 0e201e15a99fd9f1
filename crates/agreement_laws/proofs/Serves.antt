-- Requests whose caller is answered: by them alone, with threads woken, with a thread born, or with one joined.
use Rattle.std.proofs.Common.{◌≡◌, ℕ, ◌<◌, Bool, true, false, cond, List, [], ◌∷◌, ◌++◌, length, map, slice_get, slice_set, Option, Some, None, refl, sym, ap, ◌∙◌, append-nil}
use Rattle.std.specs.Prelude.{◌==◌, slice_index}
use Rattle.elf_image.specs.Layout.{Setup}
use Rattle.wire_msg.specs.declared.calls.Call.{Call as CallOf}
use Rattle.wire_msg.specs.declared.calls.Call.TheVariants.{Spawn, Join as JoinCall, FutexWake}
use Rattle.wire_msg.specs.declared.messages.Msg.{Msg}
use Rattle.serving.specs.declared.control_data.Fate.{Fate}
use Rattle.serving.specs.declared.control_data.Fate.TheVariants.{Live, Exited}
use Rattle.serving.specs.declared.control_data.Join.TheVariants.{Code, Parked as ParkedJoin, Invalid}
use Rattle.serving.specs.declared.control_data.Request.TheVariants.{Call as CallRequest}
use Rattle.serving.specs.declared.control_data.Waiter.{Waiter}
use Rattle.serving.specs.ControlData.{ControlData}
use Rattle.serving.specs.Join.{join_by, join_of}
use Rattle.serving.specs.Wake.{woken}
use Rattle.serving.specs.Serving.{Served, answer, answered, born, joined, wake_served}
use Rattle.clock_policy.specs.Epoch.{Epoch, limit_of}
use Rattle.flat_machine.specs.declared.threads.Status.TheVariants.{Answered, Gone}
use Rattle.flat_machine.specs.State.{State as Flat, new_thread, with_status}
use Rattle.flat_machine.specs.Serving.{fate_of, control_of, with_fates, woken_threads, after_serving}
use Rattle.flat_machine.proofs.ServingLemmas.{same_fates, more_fates, one_fate}
use Rattle.control_server.specs.Control.{Control, Waiting, Check}
use Rattle.control_server.specs.Serve.{woken_mail, own_mail, born_mail, freest_host, callers_born, joined_by, join_all}
use Rattle.event_journal.specs.State.{State}
use Rattle.node_machine.specs.declared.nodes.Node.{Node}
use Rattle.agreement_laws.specs.Phases.{Ask, plainly, by_write, status_asking}
use Rattle.agreement_laws.specs.Sides.{Side, keys_of, reports_of}
use Rattle.agreement_laws.specs.Kept.{Kept}
use Rattle.agreement_laws.proofs.AfterServing.{Lives, IsLiveIn, fates_status}
use Rattle.agreement_laws.proofs.Posting.{post, kept_joined}
use Rattle.agreement_laws.proofs.Callers.{IsAsker, asks_first, asker_from, flat_status, caller_answered}
use Rattle.agreement_laws.proofs.Wakes.{live_in, all_woken}
use Rattle.agreement_laws.proofs.Births.{born_flat, born_moves, joined_moves, fates_are, more_callers}

-- the server once a request is served, and before the epoch is closed
abbrev pub served_control : Control → List Waiting → Option Check → List ℕ → Served → Epoch → Control
served_control c rest check free made epochs = record c { control = made.control; backlog = rest; checking = check; callers = callers_born made.born c.callers; free = free; epochs = epochs }

abbrev pub served_mail : Setup → Control → Waiting → Served → List (ℕ × Msg)
served_mail w c q made = woken_mail c q.time made.woken ++ (born_mail w c q.time made.born ++ own_mail c q.from made.own)

-- all is kept where a request is served on both machines
abbrev pub IsServed : Setup → State Node Msg → Control → Flat → Waiting → List Waiting → Option Check → List ℕ → Served → Epoch → Type 0
IsServed w s c f q rest check free made epochs = Kept w (post w s (served_mail w c q made)) (served_control c rest check free made epochs) (after_serving f q.thread made)

-- the flat state shows what was served where its fates do
pub shows_made : (f : Flat) (u : ℕ) (made : Served) → map fate_of (after_serving f u made).threads ≡ made.control.fates → made.control ≡ control_of (after_serving f u made)
unfolding after_serving
shows_made f u made e = let with : List Fate → ControlData = λ fs. record made.control { fates = fs } in ap with (sym e)

pub lives_asking : (ask : Ask) → Lives (status_asking ask)
lives_asking (plainly call) = tt
lives_asking (by_write write) = tt

pub asker_lives : {w : Setup} {s : State Node Msg} {c : Control} {f : Flat} (k : Kept w s c f) (u : ℕ) (call : CallOf) (rest : List Waiting) (check : Option Check) (a : IsAsker w c u call rest check (k.phase u)) → IsLiveIn (map fate_of f.threads) u
asker_lives {w} {s} {c} {f} k u call rest check a = live_in f u (status_asking a.ask) (lives_asking a.ask) (flat_status k u call rest check a)

pub asker_keys : {w : Setup} {s : State Node Msg} {c : Control} {f : Flat} (k : Kept w s c f) (u : ℕ) (call : CallOf) (rest : List Waiting) (check : Option Check) (a : IsAsker w c u call rest check (k.phase u)) → keys_of c.control u ≡ []
asker_keys k u call rest check a = ap (λ (z : Side). z.keys) (k.sides u 0 ∙ a.side 0)

pub asker_reports : {w : Setup} {s : State Node Msg} {c : Control} {f : Flat} (k : Kept w s c f) (u : ℕ) (call : CallOf) (rest : List Waiting) (check : Option Check) (a : IsAsker w c u call rest check (k.phase u)) → reports_of u c.epochs.members ≡ None ∷ []
asker_reports k u call rest check a = ap (λ (z : Side). z.reports) (k.sides u 0 ∙ a.side 0)

-- ALONE
pub keys_same : (c d : ControlData) (u : ℕ) → d.fates ≡ c.fates → d.waiters ≡ c.waiters → keys_of d u ≡ keys_of c u
keys_same c d u a b = ap (λ (fates : List Fate). keys_of (record d { fates = fates }) u) a ∙ ap (λ (waiters : List Waiter). keys_of (record c { waiters = waiters }) u) b

threads_answered : (f : Flat) (u : ℕ) (after : ControlData) (value : ℕ) → after.fates ≡ map fate_of f.threads → (after_serving f u (answered after value)).threads ≡ with_status f.threads u (Answered value)
unfolding after_serving
threads_answered f u after value fates =
    ap (λ (fs : List Fate). with_status (with_fates f.threads fs ++ []) u (Answered value)) fates
    ∙ ap (λ ts. with_status ts u (Answered value)) (append-nil (with_fates f.threads (map fate_of f.threads)) ∙ same_fates f.threads)

pub serves_answered : {w : Setup} {s : State Node Msg} {c : Control} {f : Flat} (k : Kept w s c f) (q : Waiting) (call : CallOf) (rest : List Waiting) (check : Option Check) (a : IsAsker w c q.thread call rest check (k.phase q.thread))
    (free : List ℕ) (after : ControlData) (value : ℕ) → q.from ≡ slice_index c.callers q.thread → after.fates ≡ c.control.fates → after.waiters ≡ c.control.waiters → after.ended ≡ c.control.ended
    → IsServed w s c f q rest check free (answered after value) c.epochs
serves_answered {w} {s} {c} {f} k q call rest check a free after value from fates waiters ended =
    let u : ℕ = q.thread in
    let made : Served = answered after value in
    let same : after.fates ≡ map fate_of f.threads = fates ∙ fates_are k in
    let threads = threads_answered f u after value same in
    caller_answered k (served_control c rest check free made c.epochs) (after_serving f u made) u call rest check a q.from value (limit_of c.epochs) from (record {
      backlog = refl;
      checking = refl;
      callers = refl;
      own_keys = keys_same c.control after u fates waiters ∙ asker_keys k u call rest check a;
      own_reports = asker_reports k u call rest check a;
      other_keys = λ x apart. keys_same c.control after x fates waiters;
      other_reports = λ x apart. refl;
      ended = λ some none. some (sym ended ∙ none);
    }) threads (shows_made f u made (ap (map fate_of) threads ∙ (fates_status f.threads u (Answered value) tt (asker_lives k u call rest check a) ∙ sym same)))

-- WITH THREADS WOKEN
threads_woken : (f : Flat) (u : ℕ) (made : Served) (value : ℕ) → made.born ≡ None → made.own ≡ answer value → made.control.fates ≡ map fate_of f.threads → (after_serving f u made).threads ≡ with_status (woken_threads made.woken f.threads) u (Answered value)
unfolding after_serving
threads_woken f u made value none own fates =
    rw (none, own, fates) (ap (λ ts. with_status (woken_threads made.woken ts) u (Answered value)) (append-nil (with_fates f.threads (map fate_of f.threads)) ∙ same_fates f.threads))

pub serves_wake : {w : Setup} {s : State Node Msg} {c : Control} {f : Flat} (k : Kept w s c f) (q : Waiting) (rest : List Waiting) (addr count : ℕ) (free : List ℕ) → c.backlog ≡ q ∷ rest → q.request ≡ CallRequest (FutexWake addr count)
    → IsServed w s c f q rest c.checking free (wake_served c.control addr count) (join_all (wake_served c.control addr count).woken c.epochs)
serves_wake {w} {s} {c} {f} k q rest addr count free e is =
    let u : ℕ = q.thread in
    let call : CallOf = FutexWake addr count in
    let made : Served = wake_served c.control addr count in
    let value : ℕ = length (woken addr count c.control.waiters) in
    let k1 = all_woken w addr q.time count s c f k in
    let c1 : Control = record c { control = made.control; epochs = join_all made.woken c.epochs } in
    let f1 : Flat = record f { threads = woken_threads made.woken f.threads; waiters = made.control.waiters } in
    let a = asks_first k1 q rest call e is in
    let threads = threads_woken f u made value refl refl (fates_are k) in
    kept_joined s (woken_mail c q.time made.woken) (own_mail c q.from made.own)
    (caller_answered k1 (served_control c rest c.checking free made (join_all made.woken c.epochs)) (after_serving f u made) u call rest c.checking a q.from value (limit_of c.epochs) (sym (asker_from k q rest call e is)) (record {
      backlog = refl;
      checking = refl;
      callers = refl;
      own_keys = asker_keys k1 u call rest c.checking a;
      own_reports = asker_reports k1 u call rest c.checking a;
      other_keys = λ x apart. refl;
      other_reports = λ x apart. refl;
      ended = λ some. some;
    }) threads (shows_made f u made (ap (map fate_of) threads ∙ (fates_status f1.threads u (Answered value) tt (asker_lives k1 u call rest c.checking a) ∙ sym (fates_are k1)))))

-- WITH A THREAD BORN
threads_born : (f : Flat) (u entry arg : ℕ) (c : ControlData) → c.fates ≡ map fate_of f.threads
    → (after_serving f u (born c entry arg)).threads ≡ with_status (f.threads ++ new_thread entry arg ∷ []) u (Answered (length c.fates))
unfolding after_serving
threads_born f u entry arg c fates =
    ap (λ (fs : List Fate). with_status (with_fates f.threads (fs ++ Live None ∷ []) ++ new_thread entry arg ∷ []) u (Answered (length c.fates))) fates
    ∙ ap (λ ts. with_status (ts ++ new_thread entry arg ∷ []) u (Answered (length c.fates))) (more_fates f.threads (Live None ∷ []))

pub serves_born : {w : Setup} {s : State Node Msg} {c : Control} {f : Flat} (k : Kept w s c f) (q : Waiting) (rest : List Waiting) (entry arg : ℕ) (free : List ℕ) → c.backlog ≡ q ∷ rest → q.request ≡ CallRequest (Spawn entry arg)
    → freest_host c.free < w.config.hosts → IsServed w s c f q rest c.checking free (born c.control entry arg) (joined_by (length c.control.fates) c.epochs)
serves_born {w} {s} {c} {f} k q rest entry arg free e is low =
    let u : ℕ = q.thread in
    let call : CallOf = Spawn entry arg in
    let made : Served = born c.control entry arg in
    let value : ℕ = length c.control.fates in
    let k1 = born_moves k free (freest_host c.free) entry arg q.time (limit_of c.epochs) low in
    let f1 : Flat = born_flat f entry arg in
    let a = asks_first k1 q rest call e is in
    let threads = threads_born f u entry arg c.control (fates_are k) in
    kept_joined s (born_mail w c q.time made.born) (own_mail c q.from made.own)
    (caller_answered k1 (served_control c rest c.checking free made (joined_by value c.epochs)) (after_serving f u made) u call rest c.checking a q.from value (limit_of c.epochs)
    (sym (more_callers c.callers u ∙ asker_from k q rest call e is)) (record {
      backlog = refl;
      checking = refl;
      callers = refl;
      own_keys = asker_keys k1 u call rest c.checking a;
      own_reports = asker_reports k1 u call rest c.checking a;
      other_keys = λ x apart. refl;
      other_reports = λ x apart. refl;
      ended = λ some. some;
    }) threads (shows_made f u made (ap (map fate_of) threads ∙ (fates_status f1.threads u (Answered value) tt (asker_lives k1 u call rest c.checking a) ∙ sym (fates_are k1)))))

-- WITH A THREAD JOINED
pub exited_target : (caller target code : ℕ) (fate : Option Fate) → join_by caller target fate ≡ Code code → fate ≡ Some (Exited code false)
exited_target caller target code None e = cc
exited_target caller target code (Some (Exited c true)) e = cc
exited_target caller target code (Some (Live (Some joiner))) e = cc
exited_target caller target code (Some (Exited c false)) e = by_test (target == caller) e where
  by_test : (b : Bool) → cond b Invalid (Code c) ≡ Code code → Some (Exited c false) ≡ Some (Exited code false)
  by_test true e = cc
  by_test false e = let same : c ≡ code = cc in ap (λ z. Some (Exited z false)) same
exited_target caller target code (Some (Live None)) e = by_test (target == caller) e where
  by_test : (b : Bool) → cond b Invalid ParkedJoin ≡ Code code → Some (Live None) ≡ Some (Exited code false)
  by_test true e = cc
  by_test false e = cc

threads_joined : (f : Flat) (u target code : ℕ) (c : ControlData) → c.fates ≡ map fate_of f.threads
    → (after_serving f u (joined c u target (Code code))).threads ≡ with_status (with_status f.threads target (Gone code true)) u (Answered code)
unfolding after_serving
threads_joined f u target code c fates =
    ap (λ (fs : List Fate). with_status (with_fates f.threads (slice_set fs target (Exited code true)) ++ []) u (Answered code)) fates
    ∙ ap (λ ts. with_status ts u (Answered code)) (append-nil (with_fates f.threads (slice_set (map fate_of f.threads) target (Exited code true))) ∙ one_fate f.threads target (Exited code true))

pub serves_joined : {w : Setup} {s : State Node Msg} {c : Control} {f : Flat} (k : Kept w s c f) (q : Waiting) (rest : List Waiting) (target code : ℕ) (free : List ℕ) → c.backlog ≡ q ∷ rest → q.request ≡ CallRequest (JoinCall target)
    → join_of c.control.fates q.thread target ≡ Code code → IsServed w s c f q rest c.checking free (joined c.control q.thread target (Code code)) c.epochs
serves_joined {w} {s} {c} {f} k q rest target code free e is join =
    let u : ℕ = q.thread in
    let call : CallOf = JoinCall target in
    let made : Served = joined c.control u target (Code code) in
    let k1 = joined_moves k target code (exited_target u target code (slice_get c.control.fates target) join) in
    let f1 : Flat = record f { threads = with_status f.threads target (Gone code true) } in
    let a = asks_first k1 q rest call e is in
    let threads = threads_joined f u target code c.control (fates_are k) in
    kept_joined s [] (own_mail c q.from made.own)
    (caller_answered k1 (served_control c rest c.checking free made c.epochs) (after_serving f u made) u call rest c.checking a q.from code (limit_of c.epochs) (sym (asker_from k q rest call e is)) (record {
      backlog = refl;
      checking = refl;
      callers = refl;
      own_keys = asker_keys k1 u call rest c.checking a;
      own_reports = asker_reports k1 u call rest c.checking a;
      other_keys = λ x apart. refl;
      other_reports = λ x apart. refl;
      ended = λ some. some;
    }) threads (shows_made f u made (ap (map fate_of) threads ∙ (fates_status f1.threads u (Answered code) tt (asker_lives k1 u call rest c.checking a) ∙ sym (fates_are k1)))))
