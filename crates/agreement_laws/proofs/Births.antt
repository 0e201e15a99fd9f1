-- Threads that are born, that are joined, and that end: by their exit, or by a trap, which ends the program.
use Rattle.std.proofs.Common.{◌≡◌, ◌≢◌, ℕ, zero, suc, ◌<◌, Bool, true, false, List, [], ◌∷◌, ◌++◌, length, map, slice_get, slice_set, Option, Some, None, refl, sym, ap, ◌∙◌, subst}
use Rattle.std.proofs.lemmas.List.{length-map}
use Rattle.std.specs.Prelude.{◌==◌, filter, slice_index, option_and_then}
use Rattle.std.specs.Option.{option_map}
use Rattle.sim_base.specs.Numbering.{local_node}
use Rattle.sim_base.specs.declared.ends.End.{End}
use Rattle.sim_base.specs.declared.ends.Cause.{Cause}
use Rattle.elf_image.specs.Layout.{Setup}
use Rattle.wire_msg.specs.declared.messages.Msg.{Msg}
use Rattle.wire_msg.specs.declared.messages.Msg.TheVariants.{Start}
use Rattle.serving.specs.declared.control_data.Fate.{Fate}
use Rattle.serving.specs.declared.control_data.Fate.TheVariants.{Live, Exited}
use Rattle.serving.specs.declared.control_data.Request.TheVariants.{Exit as ExitRequest, Trap as TrapRequest}
use Rattle.serving.specs.ControlData.{ControlData, is_joiner}
use Rattle.flat_machine.specs.declared.threads.Thread.{Thread}
use Rattle.flat_machine.specs.declared.threads.Status.{Status as FlatStatus}
use Rattle.flat_machine.specs.declared.threads.Status.TheVariants.{Gone}
use Rattle.flat_machine.specs.State.{State as Flat, new_thread, with_status}
use Rattle.flat_machine.specs.Serving.{fate_by, fate_of, control_of}
use Rattle.flat_machine.proofs.ServingLemmas.{fates_gone}
use Rattle.control_server.specs.Control.{Control, Waiting, waits as is_by}
use Rattle.control_server.specs.Serve.{joined_by, left_by}
use Rattle.event_journal.specs.State.{State}
use Rattle.node_machine.specs.declared.nodes.Node.{Node}
use Rattle.agreement_laws.specs.Phases.{Hart, Work, executes, gathers, Going, runs, misses, writes, misses_byte, stops, probes, Ask, plainly, by_write, Phase, unborn, sent, on, calling, asking, lost, trapping, trapped, exiting, over, status_working, status_going, status_asking}
use Rattle.agreement_laws.specs.Sides.{Side, side, side_of, place_of, keys_of}
use Rattle.agreement_laws.specs.Kept.{Fit, Kept}
use Rattle.agreement_laws.proofs.Joins.{words_of, targets_same, targets_more}
use Rattle.agreement_laws.proofs.Threads.{get_map, get_last}
use Rattle.agreement_laws.proofs.Reporting.{reports_joined, reports_joined_there, reports_left, reports_left_there}
use Rattle.agreement_laws.proofs.Posting.{post, posted_moves, posts_start, posts_silent}
use Rattle.agreement_laws.proofs.Callers.{FlatTurns, status_turns, differs, first_is, backlog_head, backlog_tail}

-- A THREAD IS BORN: the next number was nobody's
got_unborn : (w : Setup) (u : ℕ) (p : Phase) → (side_of w u 0 p).status ≡ None → p ≡ unborn
got_unborn w u unborn e = refl
got_unborn w u _ e = cc

past_end : {A : Type 0} (xs : List A) → slice_get xs (length xs) ≡ None
past_end [] = refl
past_end (x ∷ xs) = past_end xs

get_other : {A : Type 0} (xs : List A) (v : A) (n : ℕ) → length xs ≢ n → slice_get (xs ++ v ∷ []) n ≡ slice_get xs n
get_other [] v zero apart = absurd (apart refl)
get_other [] v (suc n) apart = refl
get_other (x ∷ xs) v zero apart = refl
get_other (x ∷ xs) v (suc n) apart = get_other xs v n (λ e. apart (ap suc e))

pub more_callers : (xs : List ℕ) (n : ℕ) → slice_index (xs ++ 0 ∷ []) n ≡ slice_index xs n
more_callers [] zero = refl
more_callers [] (suc n) = refl
more_callers (x ∷ xs) zero = refl
more_callers (x ∷ xs) (suc n) = more_callers xs n

more_threads : (ts : List Thread) (entry arg : ℕ) → map fate_of ts ++ Live None ∷ [] ≡ map fate_of (ts ++ new_thread entry arg ∷ [])
more_threads [] entry arg = refl
more_threads (t ∷ ts) entry arg = ap (λ fs. fate_of t ∷ fs) (more_threads ts entry arg)

pub next_is : {w : Setup} {s : State Node Msg} {c : Control} {f : Flat} (k : Kept w s c f) → length c.control.fates ≡ length f.threads
next_is {w} {s} {c} {f} k = ap (λ (z : ControlData). length z.fates) k.control ∙ length-map f.threads fate_of

abbrev pub born_control : Control → List ℕ → Control
born_control c free = record c {
  control = record c.control { fates = c.control.fates ++ Live None ∷ [] };
  callers = c.callers ++ 0 ∷ [];
  free = free;
  epochs = joined_by (length c.control.fates) c.epochs;
}

abbrev pub born_flat : Flat → ℕ → ℕ → Flat
born_flat f entry arg = record f { threads = f.threads ++ new_thread entry arg ∷ [] }

pub born_moves : {w : Setup} {s : State Node Msg} {c : Control} {f : Flat} (k : Kept w s c f) (free : List ℕ) (at entry arg time limit : ℕ) → at < w.config.hosts
    → Kept w (post w s ((local_node w.config at, Start (length c.control.fates) entry arg time limit) ∷ [])) (born_control c free) (born_flat f entry arg)
born_moves {w} {s} {c} {f} k free at entry arg time limit low =
    let u : ℕ = length c.control.fates in
    let f' : Flat = born_flat f entry arg in
    let number : u ≡ length f.threads = next_is k in
    let nobody : slice_get f.threads u ≡ None = ap (slice_get f.threads) number ∙ past_end f.threads in
    let is_p : k.phase u ≡ unborn = got_unborn w u (k.phase u) (sym (ap (λ (z : Side). z.status) (k.sides u 0)) ∙ ap (option_map (λ t. t.status)) nobody) in
    let old : (host : ℕ) → side w s c f u host ≡ side_of w u host unborn = λ host. k.sides u host ∙ ap (side_of w u host) is_p in
    let here : slice_get f'.threads u ≡ Some (new_thread entry arg) = ap (slice_get f'.threads) number ∙ get_last f.threads (new_thread entry arg) in
    let elsewhere : (x : ℕ) → (u == x) ≡ false → slice_get f'.threads x ≡ slice_get f.threads x = λ x apart. get_other f.threads (new_thread entry arg) x (λ e. differs u x apart (number ∙ e)) in
    posted_moves k (born_control c free) f' u unborn (sent at entry arg time limit) ((local_node w.config at, Start u entry arg time limit) ∷ []) is_p refl (record {
      status = λ host. ap (option_map (λ t. t.status)) here;
      place = λ host. ap (option_and_then place_of) here;
      keys = λ host. ap (λ ts. words_of c.control.waiters u ++ ts) (targets_more c.control.fates u 0) ∙ ap (λ (z : Side). z.keys) (old host);
      backlog = λ host. ap (λ (z : Side). z.backlog) (old host);
      checked = λ host. ap (λ (z : Side). z.checked) (old host);
      reports = λ host. reports_joined u c.epochs.members (ap (λ (z : Side). z.reports) (old host));
      others = λ x apart. record {
        status = ap (option_map (λ t. t.status)) (elsewhere x apart);
        place = ap (option_and_then place_of) (elsewhere x apart);
        keys = ap (λ ts. words_of c.control.waiters x ++ ts) (targets_more c.control.fates x 0);
        backlog = refl;
        checked = refl;
        reports = reports_joined_there u x c.epochs.members apart;
        caller = more_callers c.callers x;
      };
      knows = tt;
      fit = low;
      ended = λ some. some;
      control =
          ap (λ (z : ControlData). record z { fates = z.fates ++ Live None ∷ [] }) k.control
          ∙ ap (λ (fates : List Fate). (let d : ControlData = record { fates = fates; waiters = f.waiters; heap_break = f.heap_break; output = f.output; ended = f.ended } in d)) (more_threads f.threads entry arg);
    }) (posts_start w u at entry arg time limit)

-- A THREAD THAT HAS EXITED is joined
working_lives : (work : Work) (code : ℕ) (joined : Bool) → status_working work ≡ Gone code joined → ⊥
working_lives executes code joined e = cc
working_lives (gathers write) code joined e = cc

going_lives : (going : Going) (code : ℕ) (joined : Bool) → status_going going ≡ Gone code joined → ⊥
going_lives runs code joined e = cc
going_lives (misses access) code joined e = cc
going_lives (writes write) code joined e = cc
going_lives (misses_byte write) code joined e = cc
going_lives (stops work report) code joined e = working_lives work code joined e
going_lives (probes work partner replies) code joined e = working_lives work code joined e

asking_lives : (ask : Ask) (code : ℕ) (joined : Bool) → status_asking ask ≡ Gone code joined → ⊥
asking_lives (plainly call) code joined e = cc
asking_lives (by_write write) code joined e = cc

pub out_of : {A : Type 0} (x y : A) → Some x ≡ Some y → x ≡ y
out_of x y e = cc

got_over : (w : Setup) (u : ℕ) (p : Phase) (code : ℕ) (joined : Bool) → (side_of w u 0 p).status ≡ Some (Gone code joined) → p ≡ over code joined
got_over w u (over c j) code joined e = cc
got_over w u (on h going) code joined e = absurd (going_lives going code joined (out_of _ _ e))
got_over w u (calling h ask time) code joined e = absurd (asking_lives ask code joined (out_of _ _ e))
got_over w u (asking h ask time) code joined e = absurd (asking_lives ask code joined (out_of _ _ e))
got_over w u (lost h ask) code joined e = absurd (asking_lives ask code joined (out_of _ _ e))
got_over w u _ code joined e = cc

gone_by : (joiner : Option ℕ) (status : FlatStatus) (code : ℕ) (joined : Bool) → fate_by joiner status ≡ Exited code joined → status ≡ Gone code joined
gone_by joiner (Gone c j) code joined e = cc
gone_by joiner _ code joined e = cc

gone_status : (o : Option Thread) (code : ℕ) (joined : Bool) → option_map fate_of o ≡ Some (Exited code joined) → option_map (λ t. t.status) o ≡ Some (Gone code joined)
gone_status None code joined e = cc
gone_status (Some t) code joined e = ap Some (gone_by t.joiner t.status code joined (out_of _ _ e))

pub fates_are : {w : Setup} {s : State Node Msg} {c : Control} {f : Flat} (k : Kept w s c f) → c.control.fates ≡ map fate_of f.threads
fates_are k = ap (λ (z : ControlData). z.fates) k.control

control_gone : (c : ControlData) (f : Flat) (u code : ℕ) (joined : Bool) → c ≡ control_of f
    → record c { fates = slice_set c.fates u (Exited code joined) } ≡ control_of (record f { threads = with_status f.threads u (Gone code joined) })
control_gone c f u code joined e =
    ap (λ (z : ControlData). record z { fates = slice_set z.fates u (Exited code joined) }) e
    ∙ ap (λ (fates : List Fate). (let d : ControlData = record { fates = fates; waiters = f.waiters; heap_break = f.heap_break; output = f.output; ended = f.ended } in d)) (sym (fates_gone f.threads u code joined))

pub joined_moves : {w : Setup} {s : State Node Msg} {c : Control} {f : Flat} (k : Kept w s c f) (target code : ℕ) → slice_get c.control.fates target ≡ Some (Exited code false)
    → Kept w (post w s []) (record c { control = record c.control { fates = slice_set c.control.fates target (Exited code true) } }) (record f { threads = with_status f.threads target (Gone code true) })
joined_moves {w} {s} {c} {f} k target code exited =
    let c' : Control = record c { control = record c.control { fates = slice_set c.control.fates target (Exited code true) } } in
    let f' : Flat = record f { threads = with_status f.threads target (Gone code true) } in
    let status : option_map (λ t. t.status) (slice_get f.threads target) ≡ Some (Gone code false) =
    gone_status (slice_get f.threads target) code false (sym (get_map fate_of f.threads target) ∙ (ap (λ fs. slice_get fs target) (sym (fates_are k)) ∙ exited)) in
    let is_p : k.phase target ≡ over code false = got_over w target (k.phase target) code false (sym (ap (λ (z : Side). z.status) (k.sides target 0)) ∙ status) in
    let old : (host : ℕ) → side w s c f target host ≡ side_of w target host (over code false) = λ host. k.sides target host ∙ ap (side_of w target host) is_p in
    let turns : FlatTurns f f' target (Gone code true) None = status_turns f f' target (Gone code false) (Gone code true) None status (ap (λ (z : Side). z.place) (old 0)) refl in
    let keys : (x : ℕ) → keys_of c'.control x ≡ keys_of c.control x = λ x. ap (λ ts. words_of c.control.waiters x ++ ts) (targets_same c.control.fates x 0 target (Exited code true) (λ was at.
    let same : was ≡ Exited code false = out_of _ _ (sym at ∙ exited) in ap (is_joiner x) same)) in
    posted_moves k c' f' target (over code false) (over code true) [] is_p refl (record {
      status = λ host. turns.is_status;
      place = λ host. turns.is_place;
      keys = λ host. keys target ∙ ap (λ (z : Side). z.keys) (old host);
      backlog = λ host. ap (λ (z : Side). z.backlog) (old host);
      checked = λ host. ap (λ (z : Side). z.checked) (old host);
      reports = λ host. ap (λ (z : Side). z.reports) (old host);
      others = λ x apart. record { status = turns.other_status x apart; place = turns.other_place x apart; keys = keys x; backlog = refl; checked = refl; reports = refl; caller = refl };
      knows = tt;
      fit = tt;
      ended = λ some. some;
      control = control_gone c.control f target code true k.control;
    }) (posts_silent w target (over code false) (over code true) [] (λ to. refl) (λ x to. refl) refl (λ host. refl) (λ host. refl))

-- AN EXIT is served, or a trap
got_exit : (w : Setup) (u : ℕ) (p : Phase) (q : Waiting) (xs : List Waiting) (code : ℕ) → q.request ≡ ExitRequest code → (side_of w u 0 p).backlog ≡ q ∷ xs
    → (host : ℕ) × (time : ℕ) × (p ≡ exiting host code time) × (q.from ≡ local_node w.config host) × (xs ≡ [])
got_exit w u (asking h ask time) q xs code is e = let r = ap (λ (z : Waiting). z.request) (first_is _ q [] xs e) ∙ is in cc
got_exit w u (trapping h cause) q xs code is e = let r = ap (λ (z : Waiting). z.request) (first_is _ q [] xs e) ∙ is in cc
got_exit w u (exiting host c time) q xs code is e =
    let first = first_is _ q [] xs e in
    let request : ExitRequest c ≡ ExitRequest code = ap (λ (z : Waiting). z.request) first ∙ is in
    let same : c ≡ code = cc in
    (host, time, ap (λ z. exiting host z time) same, sym (ap (λ (z : Waiting). z.from) first), (let z : [] ≡ xs = cc in sym z))
got_exit w u _ q xs code is e = cc

pub record IsLeaver (w : Setup) (q : Waiting) (rest : List Waiting) (code : ℕ) (p : Phase) : Type 0 where
  pub host : ℕ
  pub time : ℕ
  pub phase : p ≡ exiting host code time
  pub from : q.from ≡ local_node w.config host
  pub alone : filter (is_by q.thread) rest ≡ []

pub who_leaves : {w : Setup} {s : State Node Msg} {c : Control} {f : Flat} (k : Kept w s c f) (q : Waiting) (rest : List Waiting) (code : ℕ) → c.backlog ≡ q ∷ rest → q.request ≡ ExitRequest code
    → IsLeaver w q rest code (k.phase q.thread)
who_leaves {w} {s} {c} {f} k q rest code e is =
    let r = got_exit w q.thread (k.phase q.thread) q (filter (is_by q.thread) rest) code is
    (sym (ap (λ (z : Side). z.backlog) (k.sides q.thread 0)) ∙ (ap (filter (is_by q.thread)) e ∙ backlog_head q rest)) in
    record { host = r.0; time = r.1; phase = r.2; from = r.3; alone = r.4 }

-- it lived, joined by nobody; the end may be set
pub exit_moves : {w : Setup} {s : State Node Msg} {c : Control} {f : Flat} (k : Kept w s c f) (f' : Flat) (q : Waiting) (rest : List Waiting) (code : ℕ) (joined : Bool) (free : List ℕ) (end : Option End)
    → c.backlog ≡ q ∷ rest → q.request ≡ ExitRequest code → c.control.ended ≡ None → slice_get c.control.fates q.thread ≡ Some (Live None) → FlatTurns f f' q.thread (Gone code joined) None
    → record c.control { fates = slice_set c.control.fates q.thread (Exited code joined); ended = end } ≡ control_of f'
    → Kept w (post w s []) (record c { control = record c.control { fates = slice_set c.control.fates q.thread (Exited code joined); ended = end }; backlog = rest; free = free; epochs = left_by q.thread c.epochs }) f'
exit_moves {w} {s} {c} {f} k f' q rest code joined free end e is none live turns control =
    let u : ℕ = q.thread in
    let a = who_leaves k q rest code e is in
    let p : Phase = exiting a.host code a.time in
    let c' : Control = record c { control = record c.control { fates = slice_set c.control.fates u (Exited code joined); ended = end }; backlog = rest; free = free; epochs = left_by u c.epochs } in
    let old : (host : ℕ) → side w s c f u host ≡ side_of w u host p = λ host. k.sides u host ∙ ap (side_of w u host) a.phase in
    let keys : (x : ℕ) → keys_of c'.control x ≡ keys_of c.control x = λ x. ap (λ ts. words_of c.control.waiters x ++ ts) (targets_same c.control.fates x 0 u (Exited code joined) (λ was at.
    let same : was ≡ Live None = out_of _ _ (sym at ∙ live) in ap (is_joiner x) same)) in
    posted_moves k c' f' u p (over code joined) [] a.phase refl (record {
      status = λ host. turns.is_status;
      place = λ host. turns.is_place;
      keys = λ host. keys u ∙ ap (λ (z : Side). z.keys) (old host);
      backlog = λ host. a.alone;
      checked = λ host. ap (λ (z : Side). z.checked) (old host);
      reports = λ host. reports_left u c.epochs.members;
      others = λ x apart. record {
        status = turns.other_status x apart;
        place = turns.other_place x apart;
        keys = keys x;
        backlog = sym (ap (filter (is_by x)) e ∙ backlog_tail x q rest apart);
        checked = refl;
        reports = reports_left_there u x c.epochs.members apart;
        caller = refl;
      };
      knows = tt;
      fit = tt;
      ended = λ some. absurd (some none);
      control = control;
    }) (posts_silent w u p (over code joined) [] (λ to. refl) (λ x to. refl) refl (λ host. refl) (λ host. refl))

got_trap : (w : Setup) (u : ℕ) (p : Phase) (q : Waiting) (xs : List Waiting) (cause : Cause) (pc : ℕ) → q.request ≡ TrapRequest cause pc → (side_of w u 0 p).backlog ≡ q ∷ xs
    → (h : Hart) × (p ≡ trapping h cause) × (h.pc ≡ pc) × (xs ≡ [])
got_trap w u (asking h ask time) q xs cause pc is e = let r = ap (λ (z : Waiting). z.request) (first_is _ q [] xs e) ∙ is in cc
got_trap w u (exiting host code time) q xs cause pc is e = let r = ap (λ (z : Waiting). z.request) (first_is _ q [] xs e) ∙ is in cc
got_trap w u (trapping h was) q xs cause pc is e =
    let request : TrapRequest was h.pc ≡ TrapRequest cause pc = ap (λ (z : Waiting). z.request) (first_is _ q [] xs e) ∙ is in
    let same : was ≡ cause = cc in
    let place : h.pc ≡ pc = cc in
    (h, ap (trapping h) same, place, (let z : [] ≡ xs = cc in sym z))
got_trap w u _ q xs cause pc is e = cc

pub record IsTrapped (q : Waiting) (rest : List Waiting) (cause : Cause) (pc : ℕ) (p : Phase) : Type 0 where
  pub h : Hart
  pub phase : p ≡ trapping h cause
  pub at : h.pc ≡ pc
  pub alone : filter (is_by q.thread) rest ≡ []

pub who_trapped : {w : Setup} {s : State Node Msg} {c : Control} {f : Flat} (k : Kept w s c f) (q : Waiting) (rest : List Waiting) (cause : Cause) (pc : ℕ) → c.backlog ≡ q ∷ rest → q.request ≡ TrapRequest cause pc
    → IsTrapped q rest cause pc (k.phase q.thread)
who_trapped {w} {s} {c} {f} k q rest cause pc e is =
    let r = got_trap w q.thread (k.phase q.thread) q (filter (is_by q.thread) rest) cause pc is
    (sym (ap (λ (z : Side). z.backlog) (k.sides q.thread 0)) ∙ (ap (filter (is_by q.thread)) e ∙ backlog_head q rest)) in
    record { h = r.0; phase = r.1; at = r.2; alone = r.3 }

pub trap_moves : {w : Setup} {s : State Node Msg} {c : Control} {f : Flat} (k : Kept w s c f) (f' : Flat) (q : Waiting) (rest : List Waiting) (cause : Cause) (pc : ℕ) (free : List ℕ) (end : Option End)
    → c.backlog ≡ q ∷ rest → q.request ≡ TrapRequest cause pc → end ≢ None → f'.threads ≡ f.threads → record c.control { ended = end } ≡ control_of f'
    → Kept w (post w s []) (record c { control = record c.control { ended = end }; backlog = rest; free = free }) f'
trap_moves {w} {s} {c} {f} k f' q rest cause pc free end e is late threads control =
    let u : ℕ = q.thread in
    let a = who_trapped k q rest cause pc e is in
    let p : Phase = trapping a.h cause in
    let old : (host : ℕ) → side w s c f u host ≡ side_of w u host p = λ host. k.sides u host ∙ ap (side_of w u host) a.phase in
    let low : a.h.tile < w.config.tiles = subst (Fit w c.control.ended) a.phase (k.fit u) in
    posted_moves k (record c { control = record c.control { ended = end }; backlog = rest; free = free }) f' u p (trapped a.h cause) [] a.phase refl (record {
      status = λ host. ap (λ ts. option_map (λ t. t.status) (slice_get ts u)) threads ∙ ap (λ (z : Side). z.status) (old host);
      place = λ host. ap (λ ts. option_and_then place_of (slice_get ts u)) threads ∙ ap (λ (z : Side). z.place) (old host);
      keys = λ host. ap (λ (z : Side). z.keys) (old host);
      backlog = λ host. a.alone;
      checked = λ host. ap (λ (z : Side). z.checked) (old host);
      reports = λ host. ap (λ (z : Side). z.reports) (old host);
      others = λ x apart. record {
        status = ap (λ ts. option_map (λ t. t.status) (slice_get ts x)) threads;
        place = ap (λ ts. option_and_then place_of (slice_get ts x)) threads;
        keys = refl;
        backlog = sym (ap (filter (is_by x)) e ∙ backlog_tail x q rest apart);
        checked = refl;
        reports = refl;
        caller = refl;
      };
      knows = tt;
      fit = (low, late);
      ended = λ some. late;
      control = control;
    }) (posts_silent w u p (trapped a.h cause) [] (λ to. refl) (λ x to. refl) refl (λ host. refl) (λ host. refl))
