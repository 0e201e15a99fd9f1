-- Threads that are parked are woken: by a wake at their word, one after the other, or by the exit of the thread that they join.
use Rattle.std.proofs.Common.{◌≡◌, ◌≢◌, ℕ, zero, suc, ◌+◌, true, false, List, [], ◌∷◌, ◌++◌, map, slice_get, slice_set, Option, Some, None, refl, sym, ap, ◌∙◌, inl, inr, subst}
use Rattle.std.proofs.lemmas.Bool.{cases_Bool}
use Rattle.std.specs.Prelude.{◌==◌, filter, find, slice_index, option_and_then}
use Rattle.std.specs.Option.{option_map}
use Rattle.elf_image.specs.Layout.{Setup}
use Rattle.wire_msg.specs.declared.messages.Msg.{Msg}
use Rattle.wire_msg.specs.declared.messages.Msg.TheVariants.{Return}
use Rattle.serving.specs.declared.control_data.Fate.{Fate}
use Rattle.serving.specs.declared.control_data.Fate.TheVariants.{Live, Exited}
use Rattle.serving.specs.declared.control_data.Waiter.{Waiter}
use Rattle.serving.specs.ControlData.{ControlData, is_joiner}
use Rattle.serving.specs.Join.{joiner_by, joiner_of}
use Rattle.serving.specs.Wake.{waits_at, longest_at, without_thread, listed, woken, still_parked}
use Rattle.serving.specs.Serving.{Woken, woken_with}
use Rattle.clock_policy.specs.Members.{with_member}
use Rattle.clock_policy.specs.Epoch.{limit_of}
use Rattle.flat_machine.specs.declared.threads.Thread.{Thread}
use Rattle.flat_machine.specs.declared.threads.Status.{Status as FlatStatus}
use Rattle.flat_machine.specs.declared.threads.Status.TheVariants.{Answered, Parked, Gone}
use Rattle.flat_machine.specs.State.{State as Flat, with_status}
use Rattle.flat_machine.specs.Serving.{fate_by, fate_of, control_of, woken_threads}
use Rattle.control_server.specs.Control.{Control, waits as is_by}
use Rattle.control_server.specs.Serve.{caller_of, return_to, woken_mail, joined_by, join_all}
use Rattle.event_journal.specs.State.{State}
use Rattle.node_machine.specs.declared.nodes.Node.{Node}
use Rattle.agreement_laws.specs.Phases.{Hart, Phase, Key, waits, told}
use Rattle.agreement_laws.specs.Sides.{Side, side, side_of, place_of, targets_of, keys_of, checked_of, reports_of}
use Rattle.agreement_laws.specs.Kept.{KnowsTile, Fit, Kept}
use Rattle.agreement_laws.proofs.Moves.{same_is}
use Rattle.agreement_laws.proofs.AfterServing.{Lives, IsLiveIn, fates_status}
use Rattle.agreement_laws.proofs.Joins.{words_of, words_gone, words_left, targets_same, targets_gone}
use Rattle.agreement_laws.proofs.Threads.{get_map}
use Rattle.agreement_laws.proofs.Reporting.{reports_joined, reports_joined_there}
use Rattle.agreement_laws.proofs.Posting.{post, posted_moves, posts_answer, kept_unsent, kept_joined}
use Rattle.agreement_laws.proofs.Callers.{FlatTurns, status_turns}

-- WHO IS PARKED: whose keys aren't empty
got_key : (w : Setup) (u : ℕ) (p : Phase) → (side_of w u 0 p).keys ≢ [] → (h : Hart) × (key : Key) × (p ≡ waits h key)
got_key w u (waits h key) some = (h, key, refl)
got_key w u _ some = absurd (some refl)

-- a status of a live thread
live_with : (o : Option Thread) (status : FlatStatus) → Lives status → option_map (λ t. t.status) o ≡ Some status → (joiner : Option ℕ) × (option_map fate_of o ≡ Some (Live joiner))
live_with None status lives e = cc
live_with (Some t) status lives e =
    let is : t.status ≡ status = (let q : Some t.status ≡ Some status = e in cc) in
    (t.joiner, ap (λ z. Some (fate_by t.joiner z)) is ∙ ap Some (by_status t.joiner status lives))
  where
    by_status : (joiner : Option ℕ) (status : FlatStatus) → Lives status → fate_by joiner status ≡ Live joiner
    by_status joiner (Gone code joined) lives = absurd lives
    by_status joiner _ lives = refl

pub live_in : (f : Flat) (u : ℕ) (status : FlatStatus) → Lives status → option_map (λ t. t.status) (slice_get f.threads u) ≡ Some status → IsLiveIn (map fate_of f.threads) u
live_in f u status lives e = let r = live_with (slice_get f.threads u) status lives e in (r.0, get_map fate_of f.threads u ∙ r.1)

-- what a wake changes at the control server
pub record Wakes (c c' : Control) (v : ℕ) : Type 0 where
  pub backlog : c'.backlog ≡ c.backlog
  pub checking : c'.checking ≡ c.checking
  pub callers : c'.callers ≡ c.callers
  pub members : c'.epochs.members ≡ with_member v c.epochs.members
  pub keys : keys_of c'.control v ≡ []
  pub other_keys : (x : ℕ) → (v == x) ≡ false → keys_of c'.control x ≡ keys_of c.control x
  pub ended : c'.control.ended ≡ c.control.ended

-- and on the flat machine: who was parked has its answer
abbrev pub GetsAnswer : Flat → Flat → ℕ → ℕ → Type 0
GetsAnswer f f' v value = (place : Option Hart) → option_map (λ t. t.status) (slice_get f.threads v) ≡ Some Parked → option_and_then place_of (slice_get f.threads v) ≡ place → FlatTurns f f' v (Answered value) place

-- ONE IS WOKEN
pub woken_moves : {w : Setup} {s : State Node Msg} {c : Control} {f : Flat} (k : Kept w s c f) (c' : Control) (f' : Flat) (v value time limit : ℕ) → keys_of c.control v ≢ [] → Wakes c c' v
    → GetsAnswer f f' v value → c'.control ≡ control_of f' → Kept w (post w s ((slice_index c.callers v, Return value time limit) ∷ [])) c' f'
woken_moves {w} {s} {c} {f} k c' f' v value time limit some wakes gets control =
    let a = got_key w v (k.phase v) (λ none. some (ap (λ (z : Side). z.keys) (k.sides v 0) ∙ none)) in
    let h : Hart = a.0 in
    let p : Phase = waits h a.1 in
    let is_p : k.phase v ≡ p = a.2 in
    let from : slice_index c.callers v ≡ h.tile = subst (λ z. KnowsTile z (slice_index c.callers v)) is_p (k.knows v) in
    let old : (host : ℕ) → side w s c f v host ≡ side_of w v host p = λ host. k.sides v host ∙ ap (side_of w v host) is_p in
    let turns : FlatTurns f f' v (Answered value) (Some h) = gets (Some h) (ap (λ (z : Side). z.status) (old 0)) (ap (λ (z : Side). z.place) (old 0)) in
    subst (λ z. Kept w (post w s ((z, Return value time limit) ∷ [])) c' f') (sym from)
    (posted_moves k c' f' v p (told h value time limit) ((h.tile, Return value time limit) ∷ []) is_p refl (record {
      status = λ host. turns.is_status;
      place = λ host. turns.is_place;
      keys = λ host. wakes.keys;
      backlog = λ host. ap (filter (is_by v)) wakes.backlog ∙ ap (λ (z : Side). z.backlog) (old host);
      checked = λ host. ap (checked_of v) wakes.checking ∙ ap (λ (z : Side). z.checked) (old host);
      reports = λ host. ap (reports_of v) wakes.members ∙ reports_joined v c.epochs.members (ap (λ (z : Side). z.reports) (old host));
      others = λ x apart. record {
        status = turns.other_status x apart;
        place = turns.other_place x apart;
        keys = wakes.other_keys x apart;
        backlog = ap (filter (is_by x)) wakes.backlog;
        checked = ap (checked_of x) wakes.checking;
        reports = ap (reports_of x) wakes.members ∙ reports_joined_there v x c.epochs.members apart;
        caller = ap (λ cs. slice_index cs x) wakes.callers;
      };
      knows = tt;
      fit = subst (Fit w c.control.ended) is_p (k.fit v);
      ended = λ some none. some (sym wakes.ended ∙ none);
      control = control;
    }) (posts_answer w v h p value time limit refl refl (λ host. refl) (λ host. refl)))

pub parked_status : {w : Setup} {s : State Node Msg} {c : Control} {f : Flat} (k : Kept w s c f) (v : ℕ) → keys_of c.control v ≢ [] → option_map (λ t. t.status) (slice_get f.threads v) ≡ Some Parked
parked_status {w} {s} {c} {f} k v some =
    let a = got_key w v (k.phase v) (λ none. some (ap (λ (z : Side). z.keys) (k.sides v 0) ∙ none)) in
    ap (λ (z : Side). z.status) (k.sides v 0 ∙ ap (side_of w v 0) a.2)

pub one_key : {w : Setup} {s : State Node Msg} {c : Control} {f : Flat} (k : Kept w s c f) (v : ℕ) → keys_of c.control v ≢ [] → (key : Key) × (keys_of c.control v ≡ key ∷ [])
one_key {w} {s} {c} {f} k v some =
    let a = got_key w v (k.phase v) (λ none. some (ap (λ (z : Side). z.keys) (k.sides v 0) ∙ none)) in
    (a.1, ap (λ (z : Side). z.keys) (k.sides v 0 ∙ ap (side_of w v 0) a.2))

-- BY A WAKE AT ITS WORD
found_words : (addr : ℕ) (ws : List Waiter) (v : ℕ) → option_map (λ w. w.thread) (find (waits_at addr) ws) ≡ Some v → words_of ws v ≢ []
found_words addr [] v e none = cc
found_words addr (x ∷ xs) v e none = elim (cases_Bool (x.addr == addr)) [
  | inl t ↦ (let is : x.thread ≡ v = cc in let i = same_is v in let here : (x.thread == v) ≡ true = ap (λ z. z == v) is ∙ i in cc)
  | inr t ↦ (let rest : option_map (λ w. w.thread) (find (waits_at addr) xs) ≡ Some v = cc in
      elim (cases_Bool (x.thread == v)) [ inl d ↦ cc | inr d ↦ found_words addr xs v rest (let z : words_of xs v ≡ [] = cc in z) ])
]

some_left : {A : Type 0} (xs ys : List A) → xs ≢ [] → xs ++ ys ≢ []
some_left [] ys some none = some refl
some_left (x ∷ xs) ys some none = cc

some_right : {A : Type 0} (xs ys : List A) → ys ≢ [] → xs ++ ys ≢ []
some_right [] ys some none = some none
some_right (x ∷ xs) ys some none = cc

alone_left : {A : Type 0} (xs ys : List A) (z : A) → xs ++ ys ≡ z ∷ [] → xs ≢ [] → ys ≡ []
alone_left [] ys z e some = absurd (some refl)
alone_left (x ∷ []) ys z e some = cc
alone_left (x ∷ y ∷ xs) ys z e some = cc

alone_right : {A : Type 0} (xs ys : List A) (z : A) → xs ++ ys ≡ z ∷ [] → ys ≢ [] → xs ≡ []
alone_right [] ys z e some = refl
alone_right (x ∷ []) [] z e some = absurd (some refl)
alone_right (x ∷ []) (y ∷ ys) z e some = cc
alone_right (x ∷ y ∷ xs) ys z e some = cc

-- the control data and the flat state once one is woken so
abbrev without_waiter : Control → ℕ → Control
without_waiter c v = record c { control = record c.control { waiters = without_thread (Some v) c.control.waiters }; epochs = joined_by v c.epochs }

abbrev woken_flat : Control → Flat → ℕ → ℕ → Flat
woken_flat c f v value = record f { threads = with_status f.threads v (Answered value); waiters = without_thread (Some v) c.control.waiters }

control_woken : (c : ControlData) (f : Flat) (waiters : List Waiter) (threads : List Thread) → c ≡ control_of f → map fate_of threads ≡ map fate_of f.threads
    → record c { waiters = waiters } ≡ control_of (record f { threads = threads; waiters = waiters })
control_woken c f waiters threads e same =
    ap (λ (z : ControlData). record z { waiters = waiters }) e
    ∙ ap (λ (fates : List Fate). (let d : ControlData = record { fates = fates; waiters = waiters; heap_break = f.heap_break; output = f.output; ended = f.ended } in d)) (sym same)

woken_one : {w : Setup} {s : State Node Msg} {c : Control} {f : Flat} (k : Kept w s c f) (addr v time : ℕ) → longest_at addr c.control.waiters ≡ Some v
    → Kept w (post w s (return_to (caller_of c v) 0 time (limit_of c.epochs) ∷ [])) (without_waiter c v) (woken_flat c f v 0)
woken_one {w} {s} {c} {f} k addr v time e =
    let words : words_of c.control.waiters v ≢ [] = found_words addr c.control.waiters v e in
    let some : keys_of c.control v ≢ [] = some_left (words_of c.control.waiters v) (targets_of v 0 c.control.fates) words in
    let one = one_key k v some in
    let targets : targets_of v 0 c.control.fates ≡ [] = alone_left (words_of c.control.waiters v) (targets_of v 0 c.control.fates) one.0 one.1 words in
    woken_moves k (without_waiter c v) (woken_flat c f v 0) v 0 time (limit_of c.epochs) some (record {
      backlog = refl;
      checking = refl;
      callers = refl;
      members = refl;
      keys = ap (λ ks. ks ++ targets_of v 0 c.control.fates) (words_gone c.control.waiters v) ∙ targets;
      other_keys = λ x apart. ap (λ ks. ks ++ targets_of x 0 c.control.fates) (words_left c.control.waiters v x apart);
      ended = refl;
    }) (λ place is at. status_turns f (woken_flat c f v 0) v Parked (Answered 0) place is at refl) (control_woken c.control f (without_thread (Some v) c.control.waiters) (with_status f.threads v (Answered 0)) k.control
    (fates_status f.threads v (Answered 0) tt (live_in f v Parked tt (parked_status k v some))))

-- several, one after the other
abbrev pub AreWoken : Setup → State Node Msg → Control → Flat → ℕ → List Woken → List Waiter → Type 0
AreWoken w s c f time ws waiters =
    Kept w (post w s (woken_mail c time ws)) (record c { control = record c.control { waiters = waiters }; epochs = join_all ws c.epochs }) (record f { threads = woken_threads ws f.threads; waiters = waiters })

woken_next : {w : Setup} {s : State Node Msg} {c : Control} {f : Flat} (k : Kept w s c f) (addr time count : ℕ)
    → ((s : State Node Msg) (c : Control) (f : Flat) → Kept w s c f → AreWoken w s c f time (map (woken_with 0) (woken addr count c.control.waiters)) (still_parked addr count c.control.waiters))
    → (o : Option ℕ) → longest_at addr c.control.waiters ≡ o
    → AreWoken w s c f time (map (woken_with 0) (listed o (woken addr count (without_thread o c.control.waiters)))) (still_parked addr count (without_thread o c.control.waiters))
woken_next {w} {s} {c} {f} k addr time count ih None e = ih s c f k
woken_next {w} {s} {c} {f} k addr time count ih (Some v) e =
    let mail : List (ℕ × Msg) = return_to (caller_of c v) 0 time (limit_of c.epochs) ∷ [] in
    let left : List Waiter = without_thread (Some v) c.control.waiters in
    kept_joined s mail (woken_mail c time (map (woken_with 0) (woken addr count left))) (ih (post w s mail) (without_waiter c v) (woken_flat c f v 0) (woken_one k addr v time e))

pub all_woken : (w : Setup) (addr time count : ℕ) (s : State Node Msg) (c : Control) (f : Flat) → Kept w s c f
    → AreWoken w s c f time (map (woken_with 0) (woken addr count c.control.waiters)) (still_parked addr count c.control.waiters)
unfolding woken still_parked
all_woken w addr time zero s c f k = subst (λ (ws : List Waiter). Kept w (post w s []) c (record f { waiters = ws })) (sym (ap (λ (z : ControlData). z.waiters) k.control)) (kept_unsent k)
all_woken w addr time (suc count) s c f k = woken_next k addr time count (all_woken w addr time count) (longest_at addr c.control.waiters) refl

-- BY THE EXIT OF THE THREAD THAT IT JOINS
has_target : (fates : List Fate) (u n k : ℕ) (old : Fate) → slice_get fates k ≡ Some old → is_joiner u old ≡ true → targets_of u n fates ≢ []
has_target [] u n k old is joins none = cc
has_target (f ∷ fs) u n zero old is joins none = let same : f ≡ old = cc in cc
has_target (f ∷ fs) u n (suc k) old is joins none = elim (cases_Bool (is_joiner u f)) [
  | inl t ↦ cc
  | inr t ↦ has_target fs u (n + 1) k old is joins (let e : targets_of u (n + 1) fs ≡ [] = cc in e)
]

pub joiner_is : (fates : List Fate) (u v : ℕ) → joiner_of fates u ≡ Some v → slice_get fates u ≡ Some (Live (Some v))
joiner_is fates u v e = by_fate (slice_get fates u) e where
  by_fate : (o : Option Fate) → option_and_then joiner_by o ≡ Some v → o ≡ Some (Live (Some v))
  by_fate None e = cc
  by_fate (Some (Live joiner)) e = ap (λ z. Some (Live z)) e
  by_fate (Some (Exited code joined)) e = cc

joins_it : (v : ℕ) → is_joiner v (Live (Some v)) ≡ true
joins_it v = same_is v

joins_not : (v x : ℕ) → (v == x) ≡ false → is_joiner x (Live (Some v)) ≡ false
joins_not v x apart = apart

-- the joiner of u is woken: u lives on for now, joined by nobody
pub joiner_woken : {w : Setup} {s : State Node Msg} {c : Control} {f : Flat} (k : Kept w s c f) (f' : Flat) (u v code time : ℕ) → joiner_of c.control.fates u ≡ Some v
    → GetsAnswer f f' v code → (record c.control { fates = slice_set c.control.fates u (Live None) }) ≡ control_of f'
    → Kept w (post w s (return_to (caller_of c v) code time (limit_of c.epochs) ∷ [])) (record c { control = record c.control { fates = slice_set c.control.fates u (Live None) }; epochs = joined_by v c.epochs }) f'
joiner_woken {w} {s} {c} {f} k f' u v code time e gets control =
    let is : slice_get c.control.fates u ≡ Some (Live (Some v)) = joiner_is c.control.fates u v e in
    let targets : targets_of v 0 c.control.fates ≢ [] = has_target c.control.fates v 0 u (Live (Some v)) is (joins_it v) in
    let some : keys_of c.control v ≢ [] = some_right (words_of c.control.waiters v) (targets_of v 0 c.control.fates) targets in
    let one = one_key k v some in
    let words : words_of c.control.waiters v ≡ [] = alone_right (words_of c.control.waiters v) (targets_of v 0 c.control.fates) one.0 one.1 targets in
    let target : targets_of v 0 c.control.fates ≡ one.0 ∷ [] = sym (ap (λ ks. ks ++ targets_of v 0 c.control.fates) words) ∙ one.1 in
    let gone = targets_gone c.control.fates v 0 u one.0 (Live (Some v)) (Live None) is (joins_it v) target refl in
    woken_moves k (record c { control = record c.control { fates = slice_set c.control.fates u (Live None) }; epochs = joined_by v c.epochs }) f' v code time (limit_of c.epochs) some (record {
      backlog = refl;
      checking = refl;
      callers = refl;
      members = refl;
      keys = ap (λ ks. ks ++ targets_of v 0 (slice_set c.control.fates u (Live None))) words ∙ gone.0;
      other_keys = λ x apart. ap (λ ks. words_of c.control.waiters x ++ ks) (targets_same c.control.fates x 0 u (Live None) (λ old at.
          let same : old ≡ Live (Some v) = (let q : Some old ≡ Some (Live (Some v)) = sym at ∙ is in cc) in ap (is_joiner x) same ∙ joins_not v x apart));
      ended = refl;
    }) gets control

-- and it is parked
pub joiner_parked : {w : Setup} {s : State Node Msg} {c : Control} {f : Flat} (k : Kept w s c f) (u v : ℕ) → joiner_of c.control.fates u ≡ Some v → keys_of c.control v ≢ []
joiner_parked {w} {s} {c} {f} k u v e =
    some_right (words_of c.control.waiters v) (targets_of v 0 c.control.fates) (has_target c.control.fates v 0 u (Live (Some v)) (joiner_is c.control.fates u v e) (joins_it v))
