-- Requests whose caller is parked: a futex wait and a join.
use Rattle.std.proofs.Common.{◌≡◌, ℕ, zero, suc, ◌+◌, ◌<◌, Bool, true, false, cond, List, [], ◌∷◌, ◌++◌, length, map, slice_get, slice_set, Option, Some, None, refl, sym, ap, ◌∙◌, arith, append-nil}
use Rattle.std.specs.Prelude.{◌==◌, option_and_then}
use Rattle.std.specs.Option.{option_map, option_map_or}
use Rattle.sim_base.specs.declared.ends.End.{End}
use Rattle.elf_image.specs.Layout.{Setup}
use Rattle.wire_msg.specs.declared.calls.Call.{Call as CallOf}
use Rattle.wire_msg.specs.declared.messages.Msg.{Msg}
use Rattle.serving.specs.declared.control_data.Fate.{Fate}
use Rattle.serving.specs.declared.control_data.Fate.TheVariants.{Live, Exited}
use Rattle.serving.specs.declared.control_data.Join.TheVariants.{Code, Parked as ParkedJoin, Invalid}
use Rattle.serving.specs.ControlData.{ControlData, is_joiner}
use Rattle.serving.specs.Join.{join_by, join_of}
use Rattle.serving.specs.Serving.{Served, park}
use Rattle.flat_machine.specs.declared.threads.Thread.{Thread}
use Rattle.flat_machine.specs.declared.threads.Status.{Status as FlatStatus}
use Rattle.flat_machine.specs.declared.threads.Status.TheVariants.{Parked}
use Rattle.flat_machine.specs.State.{State as Flat, with_status}
use Rattle.flat_machine.specs.Serving.{fate_of, with_fates, after_serving}
use Rattle.flat_machine.specs.Inner.{with_joiner}
use Rattle.flat_machine.proofs.ServingLemmas.{same_fates, one_fate, fates_joined_by}
use Rattle.control_server.specs.Control.{Control, Waiting, Check}
use Rattle.control_server.specs.Serve.{left_by}
use Rattle.event_journal.specs.State.{State}
use Rattle.node_machine.specs.declared.nodes.Node.{Node}
use Rattle.agreement_laws.specs.Phases.{Hart, word, ending, status_asking}
use Rattle.agreement_laws.specs.Sides.{place_of, targets_of}
use Rattle.agreement_laws.specs.Kept.{Kept}
use Rattle.agreement_laws.proofs.Moves.{same_is}
use Rattle.agreement_laws.proofs.Joins.{words_of, words_here, words_there, targets_here, targets_same}
use Rattle.agreement_laws.proofs.AfterServing.{IsLiveIn, fates_status}
use Rattle.agreement_laws.proofs.Reporting.{reports_left, reports_left_there}
use Rattle.agreement_laws.proofs.Callers.{FlatTurns, status_turns, IsAsker, flat_status, flat_place, caller_parked}
use Rattle.agreement_laws.proofs.Wakes.{live_in}
use Rattle.agreement_laws.proofs.Births.{fates_are, out_of}
use Rattle.agreement_laws.proofs.Serves.{IsServed, served_control, shows_made, lives_asking, asker_lives, asker_keys}

-- the caller is parked, and an end may follow
abbrev pub parks : ControlData → Option End → Served
parks c end = record { control = record c { ended = end }; woken = []; born = None; own = park }

pub both_none : {A : Type 0} (xs ys : List A) → xs ++ ys ≡ [] → (xs ≡ []) × (ys ≡ [])
both_none [] ys e = (refl, e)
both_none (x ∷ xs) ys e = cc

-- AT A WORD
abbrev pub with_waiter : ControlData → ℕ → ℕ → ControlData
with_waiter c u addr = record c { waiters = c.waiters ++ (record { thread = u; addr = addr }) ∷ [] }

threads_waiting : (f : Flat) (u : ℕ) (after : ControlData) (end : Option End) → after.fates ≡ map fate_of f.threads → (after_serving f u (parks after end)).threads ≡ with_status f.threads u Parked
unfolding after_serving
threads_waiting f u after end fates =
    ap (λ (fs : List Fate). with_status (with_fates f.threads fs ++ []) u Parked) fates
    ∙ ap (λ ts. with_status ts u Parked) (append-nil (with_fates f.threads (map fate_of f.threads)) ∙ same_fates f.threads)

pub serves_waits : {w : Setup} {s : State Node Msg} {c : Control} {f : Flat} (k : Kept w s c f) (q : Waiting) (call : CallOf) (rest : List Waiting) (check : Option Check) (a : IsAsker w c q.thread call rest check (k.phase q.thread))
    (free : List ℕ) (addr : ℕ) (end : Option End) → c.control.ended ≡ None → IsServed w s c f q rest check free (parks (with_waiter c.control q.thread addr) end) (left_by q.thread c.epochs)
serves_waits {w} {s} {c} {f} k q call rest check a free addr end none =
    let u : ℕ = q.thread in
    let after : ControlData = with_waiter c.control u addr in
    let made : Served = parks after end in
    let threads = threads_waiting f u after end (fates_are k) in
    let keys = both_none (words_of c.control.waiters u) (targets_of u 0 c.control.fates) (asker_keys k u call rest check a) in
    caller_parked k (served_control c rest check free made (left_by u c.epochs)) (after_serving f u made) u call rest check a (word addr) (record {
      backlog = refl;
      checking = refl;
      callers = refl;
      own_keys = ap (λ ks. ks ++ targets_of u 0 c.control.fates) (words_here c.control.waiters u addr keys.0) ∙ ap (λ ks. word addr ∷ ks) keys.1;
      own_reports = reports_left u c.epochs.members;
      other_keys = λ x apart. ap (λ ks. ks ++ targets_of x 0 c.control.fates) (words_there c.control.waiters u addr x apart);
      other_reports = λ x apart. reports_left_there u x c.epochs.members apart;
      ended = λ some. absurd (some none);
    }) (status_turns f (after_serving f u made) u (status_asking a.ask) Parked (Some a.h) (flat_status k u call rest check a) (flat_place k u call rest check a) threads)
    (shows_made f u made (ap (map fate_of) threads ∙ (fates_status f.threads u Parked tt (asker_lives k u call rest check a) ∙ sym (fates_are k))))

-- JOINING: another thread has a joiner, and shows the same
pub same_set : {B : Type 0} (h : Option Thread → B) (ts : List Thread) (n x : ℕ) (t t' : Thread) → slice_get ts n ≡ Some t → h (Some t') ≡ h (Some t) → h (slice_get (slice_set ts n t') x) ≡ h (slice_get ts x)
same_set h [] n x t t' is same = cc
same_set h (y ∷ ys) zero zero t t' is same = same ∙ ap h (sym is)
same_set h (y ∷ ys) zero (suc x) t t' is same = refl
same_set h (y ∷ ys) (suc n) zero t t' is same = refl
same_set h (y ∷ ys) (suc n) (suc x) t t' is same = same_set h ys n x t t' is same

pub joiner_shows : {B : Type 0} (h : Option Thread → B) (ts : List Thread) (n x : ℕ) (joiner : Option ℕ) → ((t : Thread) → h (Some (record t { joiner = joiner })) ≡ h (Some t)) → h (slice_get (with_joiner ts n joiner) x) ≡ h (slice_get ts x)
joiner_shows h ts n x joiner same = by_thread (slice_get ts n) refl where
  by_thread : (o : Option Thread) → slice_get ts n ≡ o → h (slice_get (option_map_or (λ t. slice_set ts n (record t { joiner = joiner })) o ts) x) ≡ h (slice_get ts x)
  by_thread None e = refl
  by_thread (Some t) e = same_set h ts n x t (record t { joiner = joiner }) e (same t)

pub joiner_status : (ts : List Thread) (n x : ℕ) (joiner : Option ℕ) → option_map (λ t. t.status) (slice_get (with_joiner ts n joiner) x) ≡ option_map (λ t. t.status) (slice_get ts x)
joiner_status ts n x joiner = joiner_shows (option_map (λ t. t.status)) ts n x joiner (λ t. refl)

pub joiner_place : (ts : List Thread) (n x : ℕ) (joiner : Option ℕ) → option_and_then place_of (slice_get (with_joiner ts n joiner) x) ≡ option_and_then place_of (slice_get ts x)
joiner_place ts n x joiner = joiner_shows (option_and_then place_of) ts n x joiner (λ t. refl)

-- a thread turns, from a state that shows the same as another
pub turns_from : {f g f' : Flat} {u : ℕ} {status : FlatStatus} {place : Option Hart} → FlatTurns g f' u status place
    → ((x : ℕ) → option_map (λ t. t.status) (slice_get g.threads x) ≡ option_map (λ t. t.status) (slice_get f.threads x))
    → ((x : ℕ) → option_and_then place_of (slice_get g.threads x) ≡ option_and_then place_of (slice_get f.threads x)) → FlatTurns f f' u status place
turns_from turns status place = record {
  is_status = turns.is_status;
  is_place = turns.is_place;
  other_status = λ x apart. turns.other_status x apart ∙ status x;
  other_place = λ x apart. turns.other_place x apart ∙ place x;
}

abbrev pub with_join : ControlData → ℕ → ℕ → ControlData
with_join c u target = record c { fates = slice_set c.fates target (Live (Some u)) }

threads_joining : (f : Flat) (u target : ℕ) (c : ControlData) (end : Option End) → c.fates ≡ map fate_of f.threads
    → (after_serving f u (parks (with_join c u target) end)).threads ≡ with_status (with_joiner f.threads target (Some u)) u Parked
unfolding after_serving
threads_joining f u target c end fates =
    ap (λ (fs : List Fate). with_status (with_fates f.threads (slice_set fs target (Live (Some u))) ++ []) u Parked) fates
    ∙ ap (λ ts. with_status ts u Parked) (append-nil (with_fates f.threads (slice_set (map fate_of f.threads) target (Live (Some u)))) ∙ one_fate f.threads target (Live (Some u)))

pub live_target : (caller target : ℕ) (fate : Option Fate) → join_by caller target fate ≡ ParkedJoin → fate ≡ Some (Live None)
live_target caller target None e = cc
live_target caller target (Some (Exited code true)) e = cc
live_target caller target (Some (Exited code false)) e = by_test (target == caller) e where
  by_test : (b : Bool) → cond b Invalid (Code code) ≡ ParkedJoin → Some (Exited code false) ≡ Some (Live None)
  by_test true e = cc
  by_test false e = cc
live_target caller target (Some (Live (Some joiner))) e = cc
live_target caller target (Some (Live None)) e = refl

pub within : {A : Type 0} (xs : List A) (n : ℕ) (x : A) → slice_get xs n ≡ Some x → n < length xs
within [] n x e = cc
within (y ∷ ys) zero x e = omega arith
within (y ∷ ys) (suc n) x e = let ih = within ys n x e in omega arith

pub serves_joins : {w : Setup} {s : State Node Msg} {c : Control} {f : Flat} (k : Kept w s c f) (q : Waiting) (call : CallOf) (rest : List Waiting) (check : Option Check) (a : IsAsker w c q.thread call rest check (k.phase q.thread))
    (free : List ℕ) (target : ℕ) (end : Option End) → c.control.ended ≡ None → join_of c.control.fates q.thread target ≡ ParkedJoin
    → IsServed w s c f q rest check free (parks (with_join c.control q.thread target) end) (left_by q.thread c.epochs)
serves_joins {w} {s} {c} {f} k q call rest check a free target end none join =
    let u : ℕ = q.thread in
    let after : ControlData = with_join c.control u target in
    let made : Served = parks after end in
    let threads = threads_joining f u target c.control end (fates_are k) in
    let keys = both_none (words_of c.control.waiters u) (targets_of u 0 c.control.fates) (asker_keys k u call rest check a) in
    let live : slice_get c.control.fates target ≡ Some (Live None) = live_target u target (slice_get c.control.fates target) join in
    let low : target < length c.control.fates = within c.control.fates target (Live None) live in
    let g0 : Flat = record f { threads = with_joiner f.threads target (Some u) } in
    let turns : FlatTurns g0 (after_serving f u made) u Parked (Some a.h) = status_turns g0 (after_serving f u made) u (status_asking a.ask) Parked (Some a.h)
    (joiner_status f.threads target u (Some u) ∙ flat_status k u call rest check a) (joiner_place f.threads target u (Some u) ∙ flat_place k u call rest check a) threads in
    let lives : IsLiveIn (map fate_of g0.threads) u = live_in g0 u (status_asking a.ask) (lives_asking a.ask) (joiner_status f.threads target u (Some u) ∙ flat_status k u call rest check a) in
    caller_parked k (served_control c rest check free made (left_by u c.epochs)) (after_serving f u made) u call rest check a (ending (0 + target)) (record {
      backlog = refl;
      checking = refl;
      callers = refl;
      own_keys = ap (λ ks. ks ++ targets_of u 0 after.fates) keys.0 ∙ targets_here c.control.fates u 0 target (Live (Some u)) keys.1 low (same_is u);
      own_reports = reports_left u c.epochs.members;
      other_keys = λ x apart. ap (λ ks. words_of c.control.waiters x ++ ks) (targets_same c.control.fates x 0 target (Live (Some u)) (λ old at.
          let same : old ≡ Live None = out_of _ _ (sym at ∙ live) in ap (is_joiner x) same ∙ sym apart));
      other_reports = λ x apart. reports_left_there u x c.epochs.members apart;
      ended = λ some. absurd (some none);
    }) (turns_from turns (λ x. joiner_status f.threads target x (Some u)) (λ x. joiner_place f.threads target x (Some u)))
    (shows_made f u made (ap (map fate_of) threads ∙ (fates_status g0.threads u Parked tt lives
    ∙ (fates_joined_by f.threads target None (Some u) (ap (λ fs. slice_get fs target) (sym (fates_are k)) ∙ live) ∙ ap (λ (fs : List Fate). slice_set fs target (Live (Some u))) (sym (fates_are k))))))
