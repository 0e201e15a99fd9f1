-- Requests whose caller is gone: an exit, the end of the program by a call, and a trap.
use Rattle.std.proofs.Common.{◌≡◌, ◌≢◌, ℕ, zero, suc, Bool, true, false, List, [], ◌∷◌, ◌++◌, map, slice_get, slice_set, Option, Some, None, refl, sym, ap, ◌∙◌, arith, inl, inr, subst, append-nil, is_some}
use Rattle.std.proofs.lemmas.Bool.Decides.{nat_tests}
use Rattle.std.proofs.lemmas.Bool.{cases_Bool}
use Rattle.std.specs.Prelude.{◌==◌, option_and_then}
use Rattle.std.specs.Option.{option_map}
use Rattle.sim_base.specs.declared.ends.End.{End}
use Rattle.sim_base.specs.declared.ends.Cause.{Cause}
use Rattle.elf_image.specs.Layout.{Setup}
use Rattle.wire_msg.specs.declared.calls.Call.{Call as CallOf}
use Rattle.wire_msg.specs.declared.messages.Msg.{Msg}
use Rattle.serving.specs.declared.control_data.Fate.{Fate}
use Rattle.serving.specs.declared.control_data.Fate.TheVariants.{Live, Exited}
use Rattle.serving.specs.declared.control_data.Request.TheVariants.{Exit as ExitRequest, Trap as TrapRequest}
use Rattle.serving.specs.ControlData.{ControlData}
use Rattle.serving.specs.Join.{joiner_by, joiner_of}
use Rattle.serving.specs.Serving.{Served, ended, joiner_woken, leave}
use Rattle.flat_machine.specs.declared.threads.Status.{Status as FlatStatus}
use Rattle.flat_machine.specs.declared.threads.Status.TheVariants.{Answered, Parked, Gone, Left}
use Rattle.flat_machine.specs.State.{State as Flat, with_status}
use Rattle.flat_machine.specs.Serving.{fate_of, control_of, with_fates, woken_threads, after_serving}
use Rattle.flat_machine.specs.Inner.{with_joiner}
use Rattle.flat_machine.proofs.ServingLemmas.{same_fates, one_fate, fates_gone, fates_joined_by}
use Rattle.control_server.specs.Control.{Control, Waiting, Check}
use Rattle.control_server.specs.Serve.{left_by, join_all, woken_mail}
use Rattle.event_journal.specs.State.{State}
use Rattle.node_machine.specs.declared.nodes.Node.{Node}
use Rattle.agreement_laws.specs.Phases.{Hart}
use Rattle.agreement_laws.specs.Sides.{Side, side_of, place_of, keys_of}
use Rattle.agreement_laws.specs.Kept.{Kept}
use Rattle.agreement_laws.proofs.Moves.{equal}
use Rattle.agreement_laws.proofs.AfterServing.{IsLiveIn, fates_status}
use Rattle.agreement_laws.proofs.Threads.{get_set_here}
use Rattle.agreement_laws.proofs.Posting.{post, kept_joined}
use Rattle.agreement_laws.proofs.Callers.{FlatTurns, status_turns, IsAsker, caller_lost}
use Rattle.agreement_laws.proofs.Wakes.{live_in, parked_status, joiner_is, joiner_woken as wakes_joiner, joiner_parked}
use Rattle.agreement_laws.proofs.Births.{IsLeaver, who_leaves, exit_moves, trap_moves, fates_are}
use Rattle.agreement_laws.proofs.Serves.{IsServed, served_control, shows_made, asker_keys, asker_reports}
use Rattle.agreement_laws.proofs.ServesParked.{joiner_status, joiner_place, turns_from}

-- AN EXIT, with or without a joiner; an end may follow
abbrev pub exits_to : ControlData → ℕ → ℕ → Option ℕ → Option End → Served
exits_to c u code joiner end = record {
  control = record c { fates = slice_set c.fates u (Exited code (is_some joiner)); ended = end };
  woken = joiner_woken joiner code;
  born = None;
  own = leave;
}

-- its fate: it lives
pub leaver_lives : {w : Setup} {s : State Node Msg} {c : Control} {f : Flat} (k : Kept w s c f) (q : Waiting) (rest : List Waiting) (code : ℕ) → IsLeaver w q rest code (k.phase q.thread)
    → slice_get c.control.fates q.thread ≡ Some (Live (joiner_of c.control.fates q.thread))
leaver_lives {w} {s} {c} {f} k q rest code a =
    let u : ℕ = q.thread in
    let live : IsLiveIn (map fate_of f.threads) u = live_in f u (Left code) tt (ap (λ (z : Side). z.status) (k.sides u 0 ∙ ap (side_of w u 0) a.phase)) in
    let is : slice_get c.control.fates u ≡ Some (Live live.0) = ap (λ fs. slice_get fs u) (fates_are k) ∙ live.1 in
    is ∙ ap (λ z. Some (Live z)) (sym (ap (option_and_then joiner_by) is))

leaver_keys : {w : Setup} {s : State Node Msg} {c : Control} {f : Flat} (k : Kept w s c f) (q : Waiting) (rest : List Waiting) (code : ℕ) → IsLeaver w q rest code (k.phase q.thread) → keys_of c.control q.thread ≡ []
leaver_keys {w} {s} {c} {f} k q rest code a = ap (λ (z : Side). z.keys) (k.sides q.thread 0 ∙ ap (side_of w q.thread 0) a.phase)

leaver_turns : {w : Setup} {s : State Node Msg} {c : Control} {f : Flat} (k : Kept w s c f) (g : Flat) (q : Waiting) (rest : List Waiting) (code : ℕ) (joined : Bool) → IsLeaver w q rest code (k.phase q.thread)
    → g.threads ≡ with_status f.threads q.thread (Gone code joined) → FlatTurns f g q.thread (Gone code joined) None
leaver_turns {w} {s} {c} {f} k g q rest code joined a threads =
    let old = k.sides q.thread 0 ∙ ap (side_of w q.thread 0) a.phase in
    status_turns f g q.thread (Left code) (Gone code joined) None (ap (λ (z : Side). z.status) old) (ap (λ (z : Side). z.place) old) threads

threads_left : (f : Flat) (u code : ℕ) (c : ControlData) (joiner : Option ℕ) (end : Option End) → c.fates ≡ map fate_of f.threads
    → (after_serving f u (exits_to c u code joiner end)).threads ≡ woken_threads (joiner_woken joiner code) (with_status f.threads u (Gone code (is_some joiner)))
unfolding after_serving
threads_left f u code c joiner end fates =
    ap (λ (fs : List Fate). woken_threads (joiner_woken joiner code) (with_fates f.threads (slice_set fs u (Exited code (is_some joiner))) ++ [])) fates
    ∙ ap (woken_threads (joiner_woken joiner code))
    (append-nil (with_fates f.threads (slice_set (map fate_of f.threads) u (Exited code (is_some joiner)))) ∙ one_fate f.threads u (Exited code (is_some joiner)))

-- two threads turn, in either order
crossed : {f f1 fa g : Flat} {u v : ℕ} {su sv : FlatStatus} {pu pv : Option Hart} → FlatTurns f f1 v sv pv → FlatTurns fa g v sv pv → FlatTurns f fa u su pu → (v == u) ≡ false → FlatTurns f1 g u su pu
crossed {f} {f1} {fa} {g} {u} {v} {su} {sv} {pu} {pv} a b d apart = record {
  is_status = b.other_status u apart ∙ d.is_status;
  is_place = b.other_place u apart ∙ d.is_place;
  other_status = λ x away. elim (cases_Bool (v == x)) [
    | inl t ↦ subst (λ z. option_map (λ t. t.status) (slice_get g.threads z) ≡ option_map (λ t. t.status) (slice_get f1.threads z)) (equal v x t) (b.is_status ∙ sym a.is_status)
    | inr t ↦ b.other_status x t ∙ (d.other_status x away ∙ sym (a.other_status x t))
  ];
  other_place = λ x away. elim (cases_Bool (v == x)) [
    | inl t ↦ subst (λ z. option_and_then place_of (slice_get g.threads z) ≡ option_and_then place_of (slice_get f1.threads z)) (equal v x t) (b.is_place ∙ sym a.is_place)
    | inr t ↦ b.other_place x t ∙ (d.other_place x away ∙ sym (a.other_place x t))
  ];
}

set_twice : {A : Type 0} (xs : List A) (n : ℕ) (a b : A) → slice_set (slice_set xs n a) n b ≡ slice_set xs n b
set_twice [] n a b = refl
set_twice (x ∷ xs) zero a b = refl
set_twice (x ∷ xs) (suc n) a b = ap (λ ys. x ∷ ys) (set_twice xs n a b)

pub serves_exit : {w : Setup} {s : State Node Msg} {c : Control} {f : Flat} (k : Kept w s c f) (q : Waiting) (rest : List Waiting) (code : ℕ) (free : List ℕ) (end : Option End) → c.backlog ≡ q ∷ rest → q.request ≡ ExitRequest code
    → c.control.ended ≡ None → (o : Option ℕ) → joiner_of c.control.fates q.thread ≡ o
    → IsServed w s c f q rest c.checking free (exits_to c.control q.thread code o end) (left_by q.thread (join_all (joiner_woken o code) c.epochs))
serves_exit {w} {s} {c} {f} k q rest code free end e is none None joiner =
    let u : ℕ = q.thread in
    let a = who_leaves k q rest code e is in
    let made : Served = exits_to c.control u code None end in
    let g : Flat = after_serving f u made in
    let threads : g.threads ≡ with_status f.threads u (Gone code false) = threads_left f u code c.control None end (fates_are k) in
    exit_moves k g q rest code false free end e is none (leaver_lives k q rest code a ∙ ap (λ z. Some (Live z)) joiner) (leaver_turns k g q rest code false a threads)
    (shows_made f u made (ap (map fate_of) threads ∙ (fates_gone f.threads u code false ∙ ap (λ (fs : List Fate). slice_set fs u (Exited code false)) (sym (fates_are k)))))
serves_exit {w} {s} {c} {f} k q rest code free end e is none (Some v) joiner =
    let u : ℕ = q.thread in
    let a = who_leaves k q rest code e is in
    let made : Served = exits_to c.control u code (Some v) end in
    let g : Flat = after_serving f u made in
    let fa : Flat = record f { threads = with_status f.threads u (Gone code true) } in
    let f0 : Flat = record f { threads = with_joiner f.threads u None } in
    let f1 : Flat = record f { threads = with_status f0.threads v (Answered code) } in
    let threads : g.threads ≡ with_status fa.threads v (Answered code) = threads_left f u code c.control (Some v) end (fates_are k) in
    let some : keys_of c.control v ≢ [] = joiner_parked k u v joiner in
    let apart : (v == u) ≡ false = elim (cases_Bool (v == u)) [ inl t ↦ absurd (some (ap (keys_of c.control) (equal v u t) ∙ leaver_keys k q rest code a)) | inr t ↦ t ] in
    let parked = parked_status k v some in
    let place : Option Hart = option_and_then place_of (slice_get f.threads v) in
    let gone : FlatTurns f fa u (Gone code true) None = leaver_turns k fa q rest code true a refl in
    let turned : (u == v) ≡ false = grind (arith, nat_tests) in
    let here : (at : Option Hart) → option_map (λ t. t.status) (slice_get f.threads v) ≡ Some Parked → option_and_then place_of (slice_get f.threads v) ≡ at → FlatTurns f f1 v (Answered code) at =
    λ at status there. turns_from (status_turns f0 f1 v Parked (Answered code) at (joiner_status f.threads u v None ∙ status) (joiner_place f.threads u v None ∙ there) refl)
    (λ x. joiner_status f.threads u x None) (λ x. joiner_place f.threads u x None) in
    let there : FlatTurns fa g v (Answered code) place = status_turns fa g v Parked (Answered code) place (gone.other_status v turned ∙ parked) (gone.other_place v turned) threads in
    let old : slice_get (map fate_of f.threads) u ≡ Some (Live (Some v)) = ap (λ fs. slice_get fs u) (sym (fates_are k)) ∙ joiner_is c.control.fates u v joiner in
    let fates1 : map fate_of f1.threads ≡ slice_set c.control.fates u (Live None) =
    fates_status f0.threads v (Answered code) tt (live_in f0 v Parked tt (joiner_status f.threads u v None ∙ parked))
    ∙ (fates_joined_by f.threads u (Some v) None old ∙ ap (λ (fs : List Fate). slice_set fs u (Live None)) (sym (fates_are k))) in
    let control1 : record c.control { fates = slice_set c.control.fates u (Live None) } ≡ control_of f1 =
    ap (λ (z : ControlData). record z { fates = slice_set c.control.fates u (Live None) }) k.control
    ∙ ap (λ (fates : List Fate). (let d : ControlData = record { fates = fates; waiters = f.waiters; heap_break = f.heap_break; output = f.output; ended = f.ended } in d)) (sym fates1) in
    let k1 = wakes_joiner k f1 u v code q.time joiner here control1 in
    let twice : slice_set (slice_set c.control.fates u (Live None)) u (Exited code true) ≡ slice_set c.control.fates u (Exited code true) = set_twice c.control.fates u (Live None) (Exited code true) in
    let shows : made.control ≡ control_of g = shows_made f u made (ap (map fate_of) threads
    ∙ (fates_status fa.threads v (Answered code) tt (live_in fa v Parked tt (gone.other_status v turned ∙ parked))
    ∙ (fates_gone f.threads u code true ∙ ap (λ (fs : List Fate). slice_set fs u (Exited code true)) (sym (fates_are k))))) in
    let with_fates_of : List Fate → ControlData = λ fs. record c.control { fates = fs; ended = end } in
    kept_joined s (woken_mail c q.time made.woken) []
    (subst (λ (fs : List Fate). Kept w (post w (post w s (woken_mail c q.time made.woken)) []) (record c { control = with_fates_of fs; backlog = rest; free = free; epochs = left_by u (join_all made.woken c.epochs) }) g) twice
    (exit_moves k1 g q rest code true free end e is none (get_set_here c.control.fates u (Live None) (Live (Some v)) (joiner_is c.control.fates u v joiner))
    (crossed (here place parked refl) there gone apart) (ap with_fates_of twice ∙ shows)))

-- THE END OF THE PROGRAM
threads_ended : (f : Flat) (u : ℕ) (c : ControlData) (end : End) → c.fates ≡ map fate_of f.threads → (after_serving f u (ended c end)).threads ≡ f.threads
unfolding after_serving
threads_ended f u c end fates = ap (λ (fs : List Fate). with_fates f.threads fs ++ []) fates ∙ (append-nil (with_fates f.threads (map fate_of f.threads)) ∙ same_fates f.threads)

pub serves_end : {w : Setup} {s : State Node Msg} {c : Control} {f : Flat} (k : Kept w s c f) (q : Waiting) (call : CallOf) (rest : List Waiting) (check : Option Check) (a : IsAsker w c q.thread call rest check (k.phase q.thread))
    (free : List ℕ) (end : End) → IsServed w s c f q rest check free (ended c.control end) c.epochs
serves_end {w} {s} {c} {f} k q call rest check a free end =
    let u : ℕ = q.thread in
    let made : Served = ended c.control end in
    let threads = threads_ended f u c.control end (fates_are k) in
    caller_lost k (served_control c rest check free made c.epochs) (after_serving f u made) u call rest check a (record {
      backlog = refl;
      checking = refl;
      callers = refl;
      own_keys = asker_keys k u call rest check a;
      own_reports = asker_reports k u call rest check a;
      other_keys = λ x apart. refl;
      other_reports = λ x apart. refl;
      ended = λ some z. cc;
    }) (λ z. cc) threads (shows_made f u made (ap (map fate_of) threads ∙ sym (fates_are k)))

pub serves_trap : {w : Setup} {s : State Node Msg} {c : Control} {f : Flat} (k : Kept w s c f) (q : Waiting) (rest : List Waiting) (cause : Cause) (pc : ℕ) (free : List ℕ) (end : End) → c.backlog ≡ q ∷ rest → q.request ≡ TrapRequest cause pc
    → IsServed w s c f q rest c.checking free (ended c.control end) c.epochs
serves_trap {w} {s} {c} {f} k q rest cause pc free end e is =
    let u : ℕ = q.thread in
    let made : Served = ended c.control end in
    let threads = threads_ended f u c.control end (fates_are k) in
    trap_moves k (after_serving f u made) q rest cause pc free (Some end) e is (λ z. cc) threads (shows_made f u made (ap (map fate_of) threads ∙ sym (fates_are k)))
