-- Who is active once the control data have changed.
use Rattle.std.proofs.Common.{◌≡◌, ℕ, ◌<◌, ◌&&◌, ◌++◌, Bool, true, false, not, cond, List, [], ◌∷◌, length, filter, slice_get, slice_set, Option, Some, None, nat_eq, zero, suc, refl, ap, sym, ◌∙◌, subst, ⊎_elim, arith}
use Rattle.std.specs.Prelude.{◌||◌}
use Rattle.std.proofs.lemmas.Bool.{cases_eq, eq-eqb, ne_eqb}
use Rattle.std.proofs.lemmas.List.Folds.{list_any-append}
use Rattle.std.proofs.lemmas.Option.{slice_get_within}
use Rattle.thread_table.specs.Threads.{is_live_at}
use Rattle.serving.specs.declared.control_data.Fate.{Fate}
use Rattle.serving.specs.declared.control_data.Fate.TheVariants.{Live, Exited}
use Rattle.serving.specs.declared.control_data.Join.{Join}
use Rattle.serving.specs.declared.control_data.Join.TheVariants.{Code, Parked, Invalid}
use Rattle.serving.specs.declared.control_data.Waiter.{Waiter}
use Rattle.serving.specs.ControlData.{ControlData, is_live, is_waiting, is_joiner, is_joining}
use Rattle.serving.specs.Join.{join_by, join_of, fates_joined, fates_exited}
use Rattle.serving.specs.Wake.{without_thread, longest_at, still_parked}
use Rattle.control_server.specs.Inner.{closed}
use Rattle.control_server.specs.Control.{is_active}

-- an active thread is live, and parked neither at a word nor joining another
pub record IsActive (c : ControlData) (t : ℕ) : Type 0 where
  pub live : is_live_at c.fates t ≡ true
  pub awake : is_waiting c.waiters t ≡ false
  pub alone : is_joining c.fates t ≡ false

parts_by : (live waits joins : Bool) → (live && not (waits || joins)) ≡ true → (live ≡ true) × (waits ≡ false) × (joins ≡ false)
parts_by true false false e = (refl, refl, refl)
parts_by true true joins e = cc
parts_by true false true e = cc
parts_by false waits joins e = cc

pub active_parts : (c : ControlData) (t : ℕ) → is_active c t ≡ true → IsActive c t
active_parts c t e =
    let p = parts_by (is_live_at c.fates t) (is_waiting c.waiters t) (is_joining c.fates t) e in
    record { live = p.0; awake = p.1; alone = p.2 }

active_by : (live waits joins : Bool) → live ≡ true → waits ≡ false → joins ≡ false → (live && not (waits || joins)) ≡ true
active_by live waits joins l a n = rw (l, a, n) refl

pub active_from : (c : ControlData) (t : ℕ) → IsActive c t → is_active c t ≡ true
active_from c t h = active_by (is_live_at c.fates t) (is_waiting c.waiters t) (is_joining c.fates t) h.live h.awake h.alone

-- a live thread has begun
pub live_lt : (fates : List Fate) (t : ℕ) → is_live_at fates t ≡ true → t < length fates
live_lt [] t e = cc
live_lt (f ∷ fates) zero e = omega arith
live_lt (f ∷ fates) (suc t) e = omega (arith, live_lt fates t e)

-- one fate is replaced
live-set : (fates : List Fate) (k t : ℕ) (fate : Fate) → (k ≡ t → ⊥) → is_live_at (slice_set fates k fate) t ≡ is_live_at fates t
live-set [] k t fate apart = refl
live-set (f ∷ fates) zero zero fate apart = absurd (apart refl)
live-set (f ∷ fates) zero (suc t) fate apart = refl
live-set (f ∷ fates) (suc k) zero fate apart = refl
live-set (f ∷ fates) (suc k) (suc t) fate apart = live-set fates k t fate (λ e. apart (ap suc e))

live-set_same : (fates : List Fate) (k : ℕ) (fate : Fate) → k < length fates → is_live_at (slice_set fates k fate) k ≡ is_live fate
live-set_same [] k fate less = absurd (omega arith)
live-set_same (f ∷ fates) zero fate less = refl
live-set_same (f ∷ fates) (suc k) fate less = live-set_same fates k fate (omega arith)

live-append : (fates more : List Fate) (t : ℕ) → is_live_at fates t ≡ true → is_live_at (fates ++ more) t ≡ true
live-append [] more t e = cc
live-append (f ∷ fates) more zero e = e
live-append (f ∷ fates) more (suc t) e = live-append fates more t e

neither : (a b : Bool) → (a || b) ≡ false → (a ≡ false) × (b ≡ false)
neither false false e = (refl, refl)
neither true b e = cc
neither false true e = cc

none : (a b : Bool) → a ≡ false → b ≡ false → (a || b) ≡ false
none a b p q = rw (p, q) refl

or_right : (a b : Bool) → b ≡ true → (a || b) ≡ true
or_right true b e = refl
or_right false b e = e

joining-set : (fates : List Fate) (k t : ℕ) (fate : Fate) → is_joining fates t ≡ false → is_joiner t fate ≡ false → is_joining (slice_set fates k fate) t ≡ false
joining-set [] k t fate h e = h
joining-set (f ∷ fates) zero t fate h e = none (is_joiner t fate) (is_joining fates t) e (neither (is_joiner t f) (is_joining fates t) h).1
joining-set (f ∷ fates) (suc k) t fate h e =
    let p = neither (is_joiner t f) (is_joining fates t) h in
    none (is_joiner t f) (is_joining (slice_set fates k fate) t) p.0 (joining-set fates k t fate p.1 e)

joining-set_true : (fates : List Fate) (k t : ℕ) (fate : Fate) → k < length fates → is_joiner t fate ≡ true → is_joining (slice_set fates k fate) t ≡ true
joining-set_true [] k t fate less e = absurd (omega arith)
joining-set_true (f ∷ fates) zero t fate less e = rw e refl
joining-set_true (f ∷ fates) (suc k) t fate less e = or_right (is_joiner t f) (is_joining (slice_set fates k fate) t) (joining-set_true fates k t fate (omega arith) e)

-- fewer threads are parked at words
waiting-filter : (p : Waiter → Bool) (ws : List Waiter) (t : ℕ) → is_waiting ws t ≡ false → is_waiting (filter p ws) t ≡ false
waiting-filter p [] t h = h
waiting-filter p (w ∷ ws) t h =
    let q = neither (nat_eq w.thread t) (is_waiting ws t) h in
    let rest : is_waiting (filter p ws) t ≡ false = waiting-filter p ws t q.1 in
    elim (p w) as (λ b. is_waiting (cond b (w ∷ filter p ws) (filter p ws)) t ≡ false) [ true ↦ none (nat_eq w.thread t) (is_waiting (filter p ws) t) q.0 rest | false ↦ rest ]

waiting_without : (o : Option ℕ) (ws : List Waiter) (t : ℕ) → is_waiting ws t ≡ false → is_waiting (without_thread o ws) t ≡ false
waiting_without None ws t h = h
waiting_without (Some thread) ws t h = waiting-filter (λ w. not (nat_eq w.thread thread)) ws t h

waiting_still : (addr count : ℕ) (ws : List Waiter) (t : ℕ) → is_waiting ws t ≡ false → is_waiting (still_parked addr count ws) t ≡ false
unfolding still_parked
waiting_still addr zero ws t h = h
waiting_still addr (suc count) ws t h = waiting_still addr count (without_thread (longest_at addr ws) ws) t (waiting_without (longest_at addr ws) ws t h)

-- a new thread changes nothing for the others
pub active_with_new : (c : ControlData) (t : ℕ) → IsActive c t → IsActive (record c { fates = c.fates ++ Live None ∷ [] }) t
active_with_new c t h = record {
  live = live-append c.fates (Live None ∷ []) t h.live;
  awake = h.awake;
  alone = list_any-append (is_joiner t) c.fates (Live None ∷ []) ∙ none (is_joining c.fates t) false h.alone refl;
}

-- nor does a wake
pub active_after_wake : (c : ControlData) (addr count t : ℕ) → IsActive c t → IsActive (record c { waiters = still_parked addr count c.waiters }) t
active_after_wake c addr count t h = record { live = h.live; awake = waiting_still addr count c.waiters t h.awake; alone = h.alone }

-- a thread that is parked at a word isn't active, and the others are as before
is_waiting-append : (c : ControlData) (caller addr t : ℕ) → is_waiting (c.waiters ++ (record { thread = caller; addr = addr }) ∷ []) t ≡ (is_waiting c.waiters t || (nat_eq caller t || false))
is_waiting-append c caller addr t = list_any-append (λ w. nat_eq w.thread t) c.waiters ((record { thread = caller; addr = addr }) ∷ [])

pub active_after_park : (c : ControlData) (caller addr t : ℕ) → (t ≡ caller → ⊥) → IsActive c t → IsActive (record c { waiters = c.waiters ++ (record { thread = caller; addr = addr }) ∷ [] }) t
active_after_park c caller addr t apart h =
    let other : nat_eq caller t ≡ false = ne_eqb caller t (λ e. apart (sym e)) in
    record {
      live = h.live;
      awake = is_waiting-append c caller addr t ∙ none (is_waiting c.waiters t) (nat_eq caller t || false) h.awake (none (nat_eq caller t) false other refl);
      alone = h.alone;
    }

not_active_waiting : (live waits joins : Bool) → waits ≡ true → (live && not (waits || joins)) ≡ false
not_active_waiting true true joins e = refl
not_active_waiting false waits joins e = refl
not_active_waiting true false joins e = cc

pub parked_not_active : (c : ControlData) (caller addr : ℕ) → is_active (record c { waiters = c.waiters ++ (record { thread = caller; addr = addr }) ∷ [] }) caller ≡ false
parked_not_active c caller addr =
    let same : (nat_eq caller caller || false) ≡ true = rw (eq-eqb caller caller refl) refl in
    let ws : List Waiter = c.waiters ++ (record { thread = caller; addr = addr }) ∷ [] in
    not_active_waiting (is_live_at c.fates caller) (is_waiting ws caller) (is_joining c.fates caller) (is_waiting-append c caller addr caller ∙ or_right (is_waiting c.waiters caller) (nat_eq caller caller || false) same)

-- after an exit the thread isn't active, and the others are as before
pub active_after_exit : (c : ControlData) (caller code t : ℕ) → (t ≡ caller → ⊥) → IsActive c t → IsActive (record c { fates = fates_exited c.fates caller code }) t
active_after_exit c caller code t apart h = record {
  live = live-set c.fates caller t _ (λ e. apart (sym e)) ∙ h.live;
  awake = h.awake;
  alone = joining-set c.fates caller t _ h.alone refl;
}

not_active_gone : (live waits joins : Bool) → live ≡ false → (live && not (waits || joins)) ≡ false
not_active_gone live waits joins e = rw e refl

pub exited_not_active : (c : ControlData) (caller code : ℕ) → is_live_at c.fates caller ≡ true → is_active (record c { fates = fates_exited c.fates caller code }) caller ≡ false
exited_not_active c caller code live =
    not_active_gone (is_live_at (fates_exited c.fates caller code) caller) (is_waiting c.waiters caller) (is_joining (fates_exited c.fates caller code) caller)
    (live-set_same c.fates caller _ (live_lt c.fates caller live))

-- after a join that parks the caller it isn't active, and the others are as before
not_live : (fates : List Fate) (k t code : ℕ) (joined : Bool) → slice_get fates k ≡ Some (Exited code joined) → is_live_at fates t ≡ true → k ≡ t → ⊥
not_live fates k t code joined e live same =
    let at : is_live_at fates k ≡ true = subst (λ n. is_live_at fates n ≡ true) (sym same) live in
    let gone : is_live_at fates k ≡ false = rw e refl in
    cc

still_live : (fates : List Fate) (k t : ℕ) (fate : Fate) → k < length fates → is_live fate ≡ true → is_live_at fates t ≡ true → is_live_at (slice_set fates k fate) t ≡ true
still_live fates k t fate less e live = ⊎_elim
    (λ (same : k ≡ t). subst (λ n. is_live_at (slice_set fates k fate) n ≡ true) same (live-set_same fates k fate less ∙ e))
    (λ (apart : k ≡ t → ⊥). live-set fates k t fate apart ∙ live)
    (cases_eq k t)

abbrev joined_to : ControlData → ℕ → ℕ → Join → ControlData
joined_to c caller target join = record c { fates = fates_joined c.fates caller target join }

active_after_own : (c : ControlData) (caller target t : ℕ) (b : Bool) (join : Join) → IsActive c t → IsActive (joined_to c caller target join) t → IsActive (joined_to c caller target (cond b Invalid join)) t
active_after_own c caller target t true join h k = h
active_after_own c caller target t false join h k = k

not_own : (b : Bool) (join : Join) → cond b Invalid join ≡ Parked → join ≡ Parked
not_own true join e = cc
not_own false join e = e

active_after_join_by : (c : ControlData) (caller target t : ℕ) (o : Option Fate) → slice_get c.fates target ≡ o → (join_by caller target o ≡ Parked → t ≡ caller → ⊥) → IsActive c t
    → IsActive (joined_to c caller target (join_by caller target o)) t
active_after_join_by c caller target t None e apart h = h
active_after_join_by c caller target t (Some (Exited code true)) e apart h = h
active_after_join_by c caller target t (Some (Exited code false)) e apart h =
    active_after_own c caller target t (nat_eq target caller) (Code code) h (record {
      live = live-set c.fates target t (Exited code true) (not_live c.fates target t code false e h.live) ∙ h.live;
      awake = h.awake;
      alone = joining-set c.fates target t (Exited code true) h.alone refl;
    })
active_after_join_by c caller target t (Some (Live (Some joiner))) e apart h = h
active_after_join_by c caller target t (Some (Live None)) e apart h = elim (nat_eq target caller) as (λ b. (cond b Invalid Parked ≡ Parked → t ≡ caller → ⊥) → IsActive (joined_to c caller target (cond b Invalid Parked)) t) [
  | true ↦ λ apart. h
  | false ↦ λ apart. record {
    live = still_live c.fates target t (Live (Some caller)) (slice_get_within c.fates target (Live None) e) refl h.live;
    awake = h.awake;
    alone = joining-set c.fates target t (Live (Some caller)) h.alone (ne_eqb caller t (λ same. apart refl (sym same)));
  }
] apart

pub active_after_join : (c : ControlData) (caller target t : ℕ) → (join_of c.fates caller target ≡ Parked → t ≡ caller → ⊥) → IsActive c t → IsActive (joined_to c caller target (join_of c.fates caller target)) t
active_after_join c caller target t apart h = active_after_join_by c caller target t (slice_get c.fates target) refl apart h

not_active_joining : (live waits joins : Bool) → joins ≡ true → (live && not (waits || joins)) ≡ false
not_active_joining true true joins e = refl
not_active_joining true false joins e = rw e refl
not_active_joining false waits joins e = refl

parked_within : (fates : List Fate) (caller target : ℕ) (o : Option Fate) → slice_get fates target ≡ o → join_by caller target o ≡ Parked → target < length fates
parked_within fates caller target None e p = cc
parked_within fates caller target (Some fate) e p = slice_get_within fates target fate e

pub joined_not_active : (c : ControlData) (caller target : ℕ) → join_of c.fates caller target ≡ Parked → is_active (joined_to c caller target Parked) caller ≡ false
joined_not_active c caller target p =
    not_active_joining (is_live_at (slice_set c.fates target (Live (Some caller))) caller) (is_waiting c.waiters caller) (is_joining (slice_set c.fates target (Live (Some caller))) caller)
    (joining-set_true c.fates target caller (Live (Some caller)) (parked_within c.fates caller target (slice_get c.fates target) refl p) (eq-eqb caller caller refl))

-- the closing changes nobody's standing
pub is_active-closed : (none_waits : Bool) (c : ControlData) (t : ℕ) → is_active (closed none_waits c) t ≡ is_active c t
is_active-closed none_waits c t = refl
