-- What becomes of a thread whose request is served: it is answered, parked, or gets no answer; and the check of a futex wait.
use Rattle.std.proofs.Common.{true, ◌≡◌, ◌≢◌, ℕ, ◌<◌, false, List, [], ◌∷◌, slice_get, Option, Some, None, refl, sym, ap, ◌∙◌, arith, inl, inr, subst}
use Rattle.std.proofs.lemmas.Bool.Decides.{nat_tests}
use Rattle.std.proofs.lemmas.Bool.{cases_Bool}
use Rattle.std.specs.Prelude.{◌==◌, filter, slice_index, option_and_then}
use Rattle.std.specs.Option.{option_map}
use Rattle.elf_image.specs.Layout.{Setup}
use Rattle.wire_msg.specs.declared.calls.Call.{Call as CallOf}
use Rattle.wire_msg.specs.declared.calls.Call.TheVariants.{FutexWait}
use Rattle.wire_msg.specs.declared.messages.Msg.{Msg}
use Rattle.wire_msg.specs.declared.messages.Msg.TheVariants.{Return, GetS}
use Rattle.serving.specs.declared.control_data.Request.TheVariants.{Call as CallRequest}
use Rattle.flat_machine.specs.declared.threads.Thread.{Thread}
use Rattle.flat_machine.specs.declared.threads.Status.{Status as FlatStatus}
use Rattle.flat_machine.specs.declared.threads.Status.TheVariants.{Answered, Parked}
use Rattle.flat_machine.specs.State.{State as Flat, with_status}
use Rattle.flat_machine.specs.Serving.{control_of}
use Rattle.control_server.specs.Control.{Control, Waiting, Check, waits as is_by, is_placed}
use Rattle.event_journal.specs.State.{State, messages_to}
use Rattle.node_machine.specs.declared.nodes.Node.{Node}
use Rattle.agreement_laws.specs.Seen.{of_threads, naming}
use Rattle.agreement_laws.specs.Phases.{Hart, Ask, plainly, by_write, call_of, Phase, asking, checking, waits, lost, told, tile_of, Key, status_asking}
use Rattle.agreement_laws.specs.Sides.{Side, side, side_of, plain, place_of, keys_of, checked_of, reports_of, asked}
use Rattle.agreement_laws.specs.Spots.{spot_at, seat, called}
use Rattle.agreement_laws.specs.Kept.{KnowsTile, IsAskable, Fit, Kept}
use Rattle.agreement_laws.proofs.Moves.{fit_later, same_is}
use Rattle.agreement_laws.proofs.Threads.{status_here, status_there}
use Rattle.agreement_laws.proofs.Answering.{who_asks}
use Rattle.agreement_laws.proofs.Posting.{post, Posts, SameOf, side_still, posted_moves, posts_answer, posts_silent}

-- WHERE EVERY THREAD SHOWS THE SAME
pub kept_as : {w : Setup} {s : State Node Msg} {c : Control} {f : Flat} (k : Kept w s c f) (c' : Control) (f' : Flat) → ((x : ℕ) → SameOf c c' f f' x) → (c.control.ended ≢ None → c'.control.ended ≢ None) → c'.control ≡ control_of f'
    → Kept w s c' f'
kept_as {w} {s} {c} {f} k c' f' same later control = record {
  phase = k.phase;
  who = k.who;
  sides = λ u host. side_still w s (same u) s host refl refl ∙ k.sides u host;
  spots = k.spots;
  sits = k.sits;
  stands = k.stands;
  knows = λ u. subst (KnowsTile (k.phase u)) (sym (same u).caller) (k.knows u);
  fit = λ u. fit_later w c.control.ended c'.control.ended (k.phase u) later (k.fit u);
  idle_free = k.idle_free;
  idle_once = k.idle_once;
  control = control;
}

-- ONE THREAD of the flat machine: its status and place, and all others as they were
pub record FlatTurns (f f' : Flat) (u : ℕ) (status : FlatStatus) (place : Option Hart) : Type 0 where
  pub is_status : option_map (λ t. t.status) (slice_get f'.threads u) ≡ Some status
  pub is_place : option_and_then place_of (slice_get f'.threads u) ≡ place
  pub other_status : (x : ℕ) → (u == x) ≡ false → option_map (λ t. t.status) (slice_get f'.threads x) ≡ option_map (λ t. t.status) (slice_get f.threads x)
  pub other_place : (x : ℕ) → (u == x) ≡ false → option_and_then place_of (slice_get f'.threads x) ≡ option_and_then place_of (slice_get f.threads x)

pub differs : (x y : ℕ) → (x == y) ≡ false → x ≢ y
differs x y e = grind (arith, nat_tests)

pub status_turns : (f f' : Flat) (u : ℕ) (old new : FlatStatus) (place : Option Hart) → option_map (λ t. t.status) (slice_get f.threads u) ≡ Some old → option_and_then place_of (slice_get f.threads u) ≡ place
    → f'.threads ≡ with_status f.threads u new → FlatTurns f f' u new place
status_turns f f' u old new place is at threads = by_thread (slice_get f.threads u) refl is at where
  elsewhere : (x : ℕ) → (u == x) ≡ false → slice_get f'.threads x ≡ slice_get f.threads x
  elsewhere x apart = ap (λ ts. slice_get ts x) threads ∙ status_there f.threads u x new (differs u x apart)

  by_thread : (o : Option Thread) → slice_get f.threads u ≡ o → option_map (λ t. t.status) o ≡ Some old → option_and_then place_of o ≡ place → FlatTurns f f' u new place
  by_thread None e is at = cc
  by_thread (Some th) e is at =
      let here : slice_get f'.threads u ≡ Some (record th { status = new }) = ap (λ ts. slice_get ts u) threads ∙ status_here f.threads u new th e in
      record {
        is_status = ap (option_map (λ t. t.status)) here;
        is_place = ap (option_and_then place_of) here ∙ at;
        other_status = λ x apart. ap (option_map (λ t. t.status)) (elsewhere x apart);
        other_place = λ x apart. ap (option_and_then place_of) (elsewhere x apart);
      }

pub same_turns : (f f' : Flat) (u : ℕ) (status : FlatStatus) (place : Option Hart) → option_map (λ t. t.status) (slice_get f.threads u) ≡ Some status → option_and_then place_of (slice_get f.threads u) ≡ place
    → f'.threads ≡ f.threads → FlatTurns f f' u status place
same_turns f f' u status place is at threads = record {
  is_status = ap (λ ts. option_map (λ t. t.status) (slice_get ts u)) threads ∙ is;
  is_place = ap (λ ts. option_and_then place_of (slice_get ts u)) threads ∙ at;
  other_status = λ x apart. ap (λ ts. option_map (λ t. t.status) (slice_get ts x)) threads;
  other_place = λ x apart. ap (λ ts. option_and_then place_of (slice_get ts x)) threads;
}

-- WHO ASKS, and what is left once its request is taken, from the backlog or where it is checked
pub record IsAsker (w : Setup) (c : Control) (u : ℕ) (call : CallOf) (rest : List Waiting) (check : Option Check) (p : Phase) : Type 0 where
  pub h : Hart
  pub ask : Ask
  pub backlog : List Waiting
  pub checks : List Check
  pub asks : call_of ask ≡ call
  pub full : IsAskable ask
  pub low : h.tile < w.config.tiles
  pub place : tile_of p ≡ Some h.tile
  pub spot : spot_at u p ≡ seat u h called
  pub side : (host : ℕ) → side_of w u host p ≡ record (plain (status_asking ask) (Some h)) { backlog = backlog; checked = checks }
  pub here : filter (is_by u) rest ≡ []
  pub unchecked : checked_of u check ≡ []
  pub there : (x : ℕ) → (u == x) ≡ false → filter (is_by x) rest ≡ filter (is_by x) c.backlog
  pub checked_there : (x : ℕ) → (u == x) ≡ false → checked_of x check ≡ checked_of x c.checking
  pub knows : slice_index c.callers u ≡ h.tile

pub first_is : {A : Type 0} (x y : A) (xs ys : List A) → x ∷ xs ≡ y ∷ ys → x ≡ y
first_is x y xs ys e = cc

pub backlog_head : (q : Waiting) (rest : List Waiting) → filter (is_by q.thread) (q ∷ rest) ≡ q ∷ filter (is_by q.thread) rest
backlog_head q rest = let i = same_is q.thread in cc

pub backlog_tail : (x : ℕ) (q : Waiting) (rest : List Waiting) → (q.thread == x) ≡ false → filter (is_by x) (q ∷ rest) ≡ filter (is_by x) rest
backlog_tail x q rest e = cc

-- the first of the backlog
pub asks_first : {w : Setup} {s : State Node Msg} {c : Control} {f : Flat} (k : Kept w s c f) (q : Waiting) (rest : List Waiting) (call : CallOf) → c.backlog ≡ q ∷ rest → q.request ≡ CallRequest call
    → IsAsker w c q.thread call rest c.checking (k.phase q.thread)
asks_first {w} {s} {c} {f} k q rest call e is =
    let u : ℕ = q.thread in
    let a = who_asks k q rest call e is in
    let p : Phase = asking a.h a.ask a.time in
    let fit : Fit w c.control.ended p = subst (Fit w c.control.ended) a.phase (k.fit u) in
    let by_request : CallRequest (call_of a.ask) ≡ CallRequest call = ap (λ (z : Waiting). z.request) a.request ∙ is in
    record {
      h = a.h;
      ask = a.ask;
      backlog = asked u a.h.tile a.time a.ask ∷ [];
      checks = [];
      asks = (let q : call_of a.ask ≡ call = cc in q);
      full = fit.1;
      low = fit.0;
      place = ap tile_of a.phase;
      spot = ap (spot_at u) a.phase;
      side = λ host. ap (side_of w u host) a.phase;
      here = a.alone;
      unchecked = ap (λ (z : Side). z.checked) (k.sides u 0 ∙ ap (side_of w u 0) a.phase);
      there = λ x apart. sym (ap (filter (is_by x)) e ∙ backlog_tail x q rest apart);
      checked_there = λ x apart. refl;
      knows = subst (λ z. KnowsTile z (slice_index c.callers u)) a.phase (k.knows u);
    }

-- the one that is checked
check_is : (check : Check) → checked_of check.thread (Some check) ≡ check ∷ []
check_is check = let i = same_is check.thread in cc

check_not : (x : ℕ) (check : Check) → (check.thread == x) ≡ false → checked_of x (Some check) ≡ []
check_not x check e = cc

got_check : (w : Setup) (u : ℕ) (p : Phase) (check : Check) → (side_of w u 0 p).checked ≡ check ∷ [] → (h : Hart) × (addr : ℕ) × (value : ℕ) × (p ≡ checking h addr value) × (record { thread = u; from = h.tile; addr = addr; value = value } ≡ check)
got_check w u (checking h addr value) check e = (h, addr, value, refl, cc)
got_check w u _ check e = cc

pub asks_checked : {w : Setup} {s : State Node Msg} {c : Control} {f : Flat} (k : Kept w s c f) (check : Check) → c.checking ≡ Some check
    → IsAsker w c check.thread (FutexWait check.addr check.value) c.backlog None (k.phase check.thread)
asks_checked {w} {s} {c} {f} k check e =
    let u : ℕ = check.thread in
    let a = got_check w u (k.phase u) check (sym (ap (λ (z : Side). z.checked) (k.sides u 0)) ∙ (ap (checked_of u) e ∙ check_is check)) in
    let h : Hart = a.0 in
    let p : Phase = checking h a.1 a.2 in
    let is_p : k.phase u ≡ p = a.3 in
    let fit : Fit w c.control.ended p = subst (Fit w c.control.ended) is_p (k.fit u) in
    record {
      h = h;
      ask = plainly (FutexWait a.1 a.2);
      backlog = [];
      checks = (record { thread = u; from = h.tile; addr = a.1; value = a.2 }) ∷ [];
      asks = ap (λ (z : Check). FutexWait z.addr z.value) a.4;
      full = fit.1;
      low = fit.0;
      place = ap tile_of is_p;
      spot = ap (spot_at u) is_p;
      side = λ host. ap (side_of w u host) is_p;
      here = ap (λ (z : Side). z.backlog) (k.sides u 0 ∙ ap (side_of w u 0) is_p);
      unchecked = refl;
      there = λ x apart. refl;
      checked_there = λ x apart. sym (ap (checked_of x) e ∙ check_not x check apart);
      knows = subst (λ z. KnowsTile z (slice_index c.callers u)) is_p (k.knows u);
    }

-- and where it sits
pub asker_from : {w : Setup} {s : State Node Msg} {c : Control} {f : Flat} (k : Kept w s c f) (q : Waiting) (rest : List Waiting) (call : CallOf) → c.backlog ≡ q ∷ rest → q.request ≡ CallRequest call
    → slice_index c.callers q.thread ≡ q.from
asker_from {w} {s} {c} {f} k q rest call e is =
    let a = who_asks k q rest call e is in
    subst (λ z. KnowsTile z (slice_index c.callers q.thread)) a.phase (k.knows q.thread) ∙ ap (λ (z : Waiting). z.from) a.request

pub checker_from : {w : Setup} {s : State Node Msg} {c : Control} {f : Flat} (k : Kept w s c f) (check : Check) → c.checking ≡ Some check → slice_index c.callers check.thread ≡ check.from
checker_from {w} {s} {c} {f} k check e =
    let u : ℕ = check.thread in
    let a = got_check w u (k.phase u) check (sym (ap (λ (z : Side). z.checked) (k.sides u 0)) ∙ (ap (checked_of u) e ∙ check_is check)) in
    subst (λ z. KnowsTile z (slice_index c.callers u)) a.3 (k.knows u) ∙ ap (λ (z : Check). z.from) a.4

-- WHAT THE CALLER'S OWN PART changes at the control server: its request is taken, keys and reports are these
pub record OwnPart (c c' : Control) (u : ℕ) (rest : List Waiting) (check : Option Check) (keys : List Key) (reports : List (Option ℕ)) : Type 0 where
  pub backlog : c'.backlog ≡ rest
  pub checking : c'.checking ≡ check
  pub callers : c'.callers ≡ c.callers
  pub own_keys : keys_of c'.control u ≡ keys
  pub own_reports : reports_of u c'.epochs.members ≡ reports
  pub other_keys : (x : ℕ) → (u == x) ≡ false → keys_of c'.control x ≡ keys_of c.control x
  pub other_reports : (x : ℕ) → (u == x) ≡ false → reports_of x c'.epochs.members ≡ reports_of x c.epochs.members
  pub ended : c.control.ended ≢ None → c'.control.ended ≢ None

own_moves : {w : Setup} {s : State Node Msg} {c : Control} {f : Flat} (k : Kept w s c f) (c' : Control) (f' : Flat) (u : ℕ) (call : CallOf) (rest : List Waiting) (check : Option Check) (a : IsAsker w c u call rest check (k.phase u))
    (p' : Phase) (mail : List (ℕ × Msg)) (status : FlatStatus) (keys : List Key) (reports : List (Option ℕ)) → ((host : ℕ) → side_of w u host p' ≡ record (plain status (Some a.h)) { keys = keys; reports = reports })
    → tile_of p' ≡ Some a.h.tile → OwnPart c c' u rest check keys reports → FlatTurns f f' u status (Some a.h) → KnowsTile p' a.h.tile → Fit w c'.control.ended p' → c'.control ≡ control_of f' → Posts w u (k.phase u) p' mail
    → Kept w (post w s mail) c' f'
own_moves {w} {s} {c} {f} k c' f' u call rest check a p' mail status keys reports new place own turns knows fit control sends =
    posted_moves k c' f' u (k.phase u) p' mail refl (place ∙ sym a.place) (record {
      status = λ host. turns.is_status ∙ sym (ap (λ (z : Side). z.status) (new host));
      place = λ host. turns.is_place ∙ sym (ap (λ (z : Side). z.place) (new host));
      keys = λ host. own.own_keys ∙ sym (ap (λ (z : Side). z.keys) (new host));
      backlog = λ host. ap (filter (is_by u)) own.backlog ∙ (a.here ∙ sym (ap (λ (z : Side). z.backlog) (new host)));
      checked = λ host. ap (checked_of u) own.checking ∙ (a.unchecked ∙ sym (ap (λ (z : Side). z.checked) (new host)));
      reports = λ host. own.own_reports ∙ sym (ap (λ (z : Side). z.reports) (new host));
      others = λ x apart. record {
        status = turns.other_status x apart;
        place = turns.other_place x apart;
        keys = own.other_keys x apart;
        backlog = ap (filter (is_by x)) own.backlog ∙ a.there x apart;
        checked = ap (checked_of x) own.checking ∙ a.checked_there x apart;
        reports = own.other_reports x apart;
        caller = ap (λ cs. slice_index cs x) own.callers;
      };
      knows = subst (KnowsTile p') (sym (ap (λ cs. slice_index cs u) own.callers ∙ a.knows)) knows;
      fit = fit;
      ended = own.ended;
      control = control;
    }) sends

no_starts : {w : Setup} {c : Control} {u : ℕ} {call : CallOf} {rest : List Waiting} {check : Option Check} {p : Phase} (a : IsAsker w c u call rest check p) (host : ℕ) → (side_of w u host p).starts ≡ []
no_starts a host = ap (λ (z : Side). z.starts) (a.side host)

no_exits : {w : Setup} {c : Control} {u : ℕ} {call : CallOf} {rest : List Waiting} {check : Option Check} {p : Phase} (a : IsAsker w c u call rest check p) (host : ℕ) → (side_of w u host p).exits ≡ []
no_exits a host = ap (λ (z : Side). z.exits) (a.side host)

pub flat_status : {w : Setup} {s : State Node Msg} {c : Control} {f : Flat} (k : Kept w s c f) (u : ℕ) (call : CallOf) (rest : List Waiting) (check : Option Check) (a : IsAsker w c u call rest check (k.phase u))
    → option_map (λ t. t.status) (slice_get f.threads u) ≡ Some (status_asking a.ask)
flat_status k u call rest check a = ap (λ (z : Side). z.status) (k.sides u 0 ∙ a.side 0)

pub flat_place : {w : Setup} {s : State Node Msg} {c : Control} {f : Flat} (k : Kept w s c f) (u : ℕ) (call : CallOf) (rest : List Waiting) (check : Option Check) (a : IsAsker w c u call rest check (k.phase u))
    → option_and_then place_of (slice_get f.threads u) ≡ Some a.h
flat_place k u call rest check a = ap (λ (z : Side). z.place) (k.sides u 0 ∙ a.side 0)

-- IT IS ANSWERED
pub caller_answered : {w : Setup} {s : State Node Msg} {c : Control} {f : Flat} (k : Kept w s c f) (c' : Control) (f' : Flat) (u : ℕ) (call : CallOf) (rest : List Waiting) (check : Option Check)
    (a : IsAsker w c u call rest check (k.phase u)) (from value limit : ℕ) → from ≡ slice_index c.callers u → OwnPart c c' u rest check [] (None ∷ []) → f'.threads ≡ with_status f.threads u (Answered value) → c'.control ≡ control_of f'
    → Kept w (post w s ((from, Return value 0 limit) ∷ [])) c' f'
caller_answered {w} {s} {c} {f} k c' f' u call rest check a from value limit is_from own threads control =
    subst (λ z. Kept w (post w s ((z, Return value 0 limit) ∷ [])) c' f') (sym (is_from ∙ a.knows))
    (own_moves k c' f' u call rest check a (told a.h value 0 limit) ((a.h.tile, Return value 0 limit) ∷ []) (Answered value) [] (None ∷ []) (λ host. refl) refl own
    (status_turns f f' u (status_asking a.ask) (Answered value) (Some a.h) (flat_status k u call rest check a) (flat_place k u call rest check a) threads) tt a.low control
    (posts_answer w u a.h (k.phase u) value 0 limit a.place a.spot (no_starts a) (no_exits a)))

-- IT IS PARKED
pub caller_parked : {w : Setup} {s : State Node Msg} {c : Control} {f : Flat} (k : Kept w s c f) (c' : Control) (f' : Flat) (u : ℕ) (call : CallOf) (rest : List Waiting) (check : Option Check)
    (a : IsAsker w c u call rest check (k.phase u)) (key : Key) → OwnPart c c' u rest check (key ∷ []) [] → FlatTurns f f' u Parked (Some a.h) → c'.control ≡ control_of f' → Kept w (post w s []) c' f'
caller_parked {w} {s} {c} {f} k c' f' u call rest check a key own turns control =
    own_moves k c' f' u call rest check a (waits a.h key) [] Parked (key ∷ []) [] (λ host. refl) refl own turns refl a.low control
    (posts_silent w u (k.phase u) (waits a.h key) [] (λ to. refl) (λ x to. refl) a.spot (no_starts a) (no_exits a))

-- IT GETS NO ANSWER: its call has ended the program
pub caller_lost : {w : Setup} {s : State Node Msg} {c : Control} {f : Flat} (k : Kept w s c f) (c' : Control) (f' : Flat) (u : ℕ) (call : CallOf) (rest : List Waiting) (check : Option Check)
    (a : IsAsker w c u call rest check (k.phase u)) → OwnPart c c' u rest check [] (None ∷ []) → c'.control.ended ≢ None → f'.threads ≡ f.threads → c'.control ≡ control_of f' → Kept w (post w s []) c' f'
caller_lost {w} {s} {c} {f} k c' f' u call rest check a own late threads control =
    own_moves k c' f' u call rest check a (lost a.h a.ask) [] (status_asking a.ask) [] (None ∷ []) (λ host. refl) refl own
    (same_turns f f' u (status_asking a.ask) (Some a.h) (flat_status k u call rest check a) (flat_place k u call rest check a) threads) tt (a.low, (a.full, late)) control
    (posts_silent w u (k.phase u) (lost a.h a.ask) [] (λ to. refl) (λ x to. refl) a.spot (no_starts a) (no_exits a))

-- ITS WORD IS READ
only_plain : (ask : Ask) (addr value : ℕ) → call_of ask ≡ FutexWait addr value → status_asking ask ≡ status_asking (plainly (FutexWait addr value))
only_plain (plainly call) addr value e = ap (λ z. status_asking (plainly z)) e
only_plain (by_write write) addr value e = cc

get_silent : (home line to : ℕ) → of_threads (messages_to to ((home, GetS line) ∷ [])) ≡ []
get_silent home line to = elim (cases_Bool (home == to)) [ inl t ↦ rw t refl | inr t ↦ rw t refl ]

get_unnamed : (home line x to : ℕ) → naming x (messages_to to ((home, GetS line) ∷ [])) ≡ []
get_unnamed home line x to = elim (cases_Bool (home == to)) [ inl t ↦ rw t refl | inr t ↦ rw t refl ]

word_placed : (ask : Ask) (addr value : ℕ) → call_of ask ≡ FutexWait addr value → IsAskable ask → is_placed (FutexWait addr value) ≡ true
word_placed (plainly call) addr value e full = ap is_placed (sym e) ∙ full
word_placed (by_write write) addr value e full = cc

pub caller_checked : {w : Setup} {s : State Node Msg} {c : Control} {f : Flat} (k : Kept w s c f) (q : Waiting) (rest : List Waiting) (addr value home line : ℕ) → c.backlog ≡ q ∷ rest → q.request ≡ CallRequest (FutexWait addr value) → c.checking ≡ None
    → Kept w (post w s ((home, GetS line) ∷ [])) (record c { backlog = rest; checking = Some (record { thread = q.thread; from = q.from; addr = addr; value = value }) }) f
caller_checked {w} {s} {c} {f} k q rest addr value home line e is none =
    let u : ℕ = q.thread in
    let call : CallOf = FutexWait addr value in
    let a = asks_first k q rest call e is in
    let check : Check = record { thread = u; from = q.from; addr = addr; value = value } in
    let c' : Control = record c { backlog = rest; checking = Some check } in
    let p' : Phase = checking a.h addr value in
    let from : q.from ≡ a.h.tile = sym (asker_from k q rest call e is) ∙ a.knows in
    let old : (host : ℕ) → side w s c f u host ≡ record (plain (status_asking a.ask) (Some a.h)) { backlog = a.backlog; checked = a.checks } = λ host. k.sides u host ∙ a.side host in
    posted_moves k c' f u (k.phase u) p' ((home, GetS line) ∷ []) refl (sym a.place) (record {
      status = λ host. ap (λ (z : Side). z.status) (old host) ∙ ap Some (only_plain a.ask addr value a.asks);
      place = λ host. ap (λ (z : Side). z.place) (old host);
      keys = λ host. ap (λ (z : Side). z.keys) (old host);
      backlog = λ host. a.here;
      checked = λ host. check_is check ∙ ap (λ z. (record check { from = z }) ∷ []) from;
      reports = λ host. ap (λ (z : Side). z.reports) (old host);
      others = λ x apart. record {
        status = refl;
        place = refl;
        keys = refl;
        backlog = a.there x apart;
        checked = check_not x check apart ∙ sym (ap (checked_of x) none);
        reports = refl;
        caller = refl;
      };
      knows = a.knows;
      fit = (a.low, word_placed a.ask addr value a.asks a.full);
      ended = λ some. some;
      control = k.control;
    }) (posts_silent w u (k.phase u) p' ((home, GetS line) ∷ []) (get_silent home line) (get_unnamed home line) a.spot (no_starts a) (no_exits a))
