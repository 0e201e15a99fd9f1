-- Who is active once a request was served: those that are woken or born, and else those who were, but the caller, which may
-- have been parked or have left.
use Rattle.std.proofs.Common.{◌≡◌, ℕ, ◌+◌, ◌%◌, ◌<◌, ◌≤◌, ◌++◌, ◌==◌, Bool, true, false, not, cond, List, [], ◌∷◌, length, filter, map, count_by, slice_get, slice_set, Option, Some, None, is_some, nat_eq, zero, suc, refl, ap, sym, ◌∙◌, subst, ⊎_elim, arith}
use Rattle.std.specs.Prelude.{◌||◌}
use Rattle.std.specs.List.{list_any}
use Rattle.std.proofs.lemmas.Bool.{cases_Bool, cases_eq, eq-eqb, eqb-true, ne_eqb}
use Rattle.std.proofs.lemmas.List.Sums.{sum_by-append}
use Rattle.elf_image.specs.Layout.{Setup}
use Rattle.wire_msg.specs.declared.calls.Call.TheVariants.{Spawn, Join as JoinCall, Write, FutexWait, FutexWake, Brk, ExitGroup}
use Rattle.thread_table.specs.Threads.{is_live_at}
use Rattle.serving.specs.declared.control_data.Fate.{Fate}
use Rattle.serving.specs.declared.control_data.Fate.TheVariants.{Live, Exited}
use Rattle.serving.specs.declared.control_data.Join.TheVariants.{Code, Parked, NoThread, Invalid}
use Rattle.serving.specs.declared.control_data.Request.{Request}
use Rattle.serving.specs.declared.control_data.Request.TheVariants.{Call, Exit, Trap}
use Rattle.serving.specs.declared.control_data.Waiter.{Waiter}
use Rattle.serving.specs.ControlData.{ControlData, is_live, is_waiting, is_joiner, is_joining}
use Rattle.serving.specs.Join.{join_by, fates_exited, joiner_of}
use Rattle.serving.specs.Wake.{longest_at, without_thread, listed, woken, still_parked}
use Rattle.serving.specs.Serving.{Served, Woken, Born, woken_with, answered, parked, born, joined, is_full, joiner_woken, request_served, serve}
use Rattle.control_server.specs.Control.{is_active, parkings, AreParkedOnce}
use Rattle.control_server.proofs.Active.{IsActive}
use Rattle.control_server.proofs.Parkings.{IsAsBefore, active_as_before, active_unparked, unparked, once_parked, still_once, once_unparked, once_live, none_counted, none_passes, some_counted, count_cons, count_set, any_set, live_set}

abbrev count_if : Bool → ℕ
count_if b = cond b 1 0

-- whether a thread is among those that are woken, or is the one that is born
abbrev pub is_woken : ℕ → List Woken → Bool
is_woken t ws = list_any (λ w. w.thread == t) ws

abbrev pub is_born : ℕ → Option Born → Bool
is_born t None = false
is_born t (Some b) = b.thread == t

pub record Moves (c : ControlData) (caller : ℕ) (made : Served) : Type 0 where
  pub parked : AreParkedOnce made.control
  pub woken : (t : ℕ) → is_woken t made.woken ≡ true → is_active made.control t ≡ true
  pub born : (t : ℕ) → is_born t made.born ≡ true → is_active made.control t ≡ true
  pub others : (t : ℕ) → (t ≡ caller → ⊥) → is_woken t made.woken ≡ false → is_born t made.born ≡ false → is_active made.control t ≡ is_active c t

-- nobody is woken or born, and each is parked as before, but the caller, which is parked once at most
moves_alone : (c : ControlData) (caller : ℕ) (made : Served) → AreParkedOnce made.control → made.woken ≡ [] → made.born ≡ None
    → ((t : ℕ) → (t ≡ caller → ⊥) → IsAsBefore c made.control t) → Moves c caller made
moves_alone c caller made once w b same = record {
  parked = once;
  woken = λ t e. let none : is_woken t [] ≡ true = subst (λ ws. is_woken t ws ≡ true) w e in cc;
  born = λ t e. let none : is_born t None ≡ true = subst (λ o. is_born t o ≡ true) b e in cc;
  others = λ t apart e f. active_as_before c made.control t (same t apart);
}

-- threads and waiters stay as they are
moves_none : (c : ControlData) (caller : ℕ) (made : Served) → AreParkedOnce c → made.woken ≡ [] → made.born ≡ None → made.control.fates ≡ c.fates → made.control.waiters ≡ c.waiters → Moves c caller made
moves_none c caller made once w b f p = moves_alone c caller made (λ t. rw (f, p) (once t)) w b (λ t apart. record { live = rw f refl; waits = rw p refl; joins = rw f refl })

-- a thread is born

count_append : {A : Type 0} (p : A → Bool) (xs : List A) (x : A) → p x ≡ false → count_by p (xs ++ x ∷ []) ≡ count_by p xs
count_append p xs x fails =
    let one : count_by p (x ∷ []) ≡ 0 = count_cons p x [] ∙ rw fails refl in
    omega (arith, sum_by-append (λ y. cond (p y) 1 0) xs (x ∷ []), one)

any_append : {A : Type 0} (p : A → Bool) (xs : List A) (x : A) → p x ≡ false → list_any p (xs ++ x ∷ []) ≡ list_any p xs
any_append p [] x fails = rw fails refl
any_append p (y ∷ xs) x fails = ap (λ b. p y || b) (any_append p xs x fails)

live_append : (fates : List Fate) (t : ℕ) → (t ≡ length fates → ⊥) → is_live_at (fates ++ Live None ∷ []) t ≡ is_live_at fates t
live_append [] zero apart = absurd (apart refl)
live_append [] (suc t) apart = refl
live_append (f ∷ fates) zero apart = refl
live_append (f ∷ fates) (suc t) apart = live_append fates t (λ e. apart (omega (arith, e)))

live_new : (fates : List Fate) → is_live_at (fates ++ Live None ∷ []) (length fates) ≡ true
live_new [] = refl
live_new (f ∷ fates) = live_new fates

not_yet : (fates : List Fate) → is_live_at fates (length fates) ≡ false
not_yet [] = refl
not_yet (f ∷ fates) = not_yet fates

parkings_born : (c : ControlData) (t : ℕ) → parkings (record c { fates = c.fates ++ Live None ∷ [] }) t ≡ parkings c t
parkings_born c t = ap (λ n. count_by (λ (w : Waiter). w.thread == t) c.waiters + n) (count_append (is_joiner t) c.fates (Live None) refl)

none_unborn : (c : ControlData) → AreParkedOnce c → parkings c (length c.fates) ≡ 0
none_unborn c once = let few : parkings c (length c.fates) ≤ cond false 1 0 = subst (λ b. parkings c (length c.fates) ≤ cond b 1 0) (not_yet c.fates) (once (length c.fates)) in omega (arith, few)

born_once : (c : ControlData) → AreParkedOnce c → AreParkedOnce (record c { fates = c.fates ++ Live None ∷ [] })
born_once c once t =
    let d : ControlData = record c { fates = c.fates ++ Live None ∷ [] } in
    ⊎_elim
    (λ (new : t ≡ length c.fates). once_unparked d t (parkings_born c t ∙ ap (parkings c) new ∙ none_unborn c once))
    (λ (old : t ≡ length c.fates → ⊥). still_once c d t once (live_append c.fates t old) (omega (arith, parkings_born c t)))
    (cases_eq t (length c.fates))

born_active : (c : ControlData) → AreParkedOnce c → is_active (record c { fates = c.fates ++ Live None ∷ [] }) (length c.fates) ≡ true
born_active c once = active_unparked (record c { fates = c.fates ++ Live None ∷ [] }) (length c.fates) (live_new c.fates) (parkings_born c (length c.fates) ∙ none_unborn c once)

moves_born : (c : ControlData) (caller entry arg : ℕ) → AreParkedOnce c → Moves c caller (born c entry arg)
moves_born c caller entry arg once = record {
  parked = born_once c once;
  woken = λ t e. cc;
  born = λ t e. subst (λ n. is_active (record c { fates = c.fates ++ Live None ∷ [] }) n ≡ true) (eqb-true (length c.fates) t e) (born_active c once);
  others = λ t apart e f. active_as_before c (record c { fates = c.fates ++ Live None ∷ [] }) t (record {
    live = live_append c.fates t (λ same. let here : nat_eq (length c.fates) t ≡ true = eq-eqb (length c.fates) t (sym same) in cc);
    waits = refl;
    joins = any_append (is_joiner t) c.fates (Live None) refl;
  });
}

moves_spawn : (c : ControlData) (caller entry arg error other : ℕ) (odd full : Bool) → AreParkedOnce c → Moves c caller (cond odd (answered c error) (cond full (answered c other) (born c entry arg)))
moves_spawn c caller entry arg error other true full once = moves_none c caller (answered c error) once refl refl refl refl
moves_spawn c caller entry arg error other false true once = moves_none c caller (answered c other) once refl refl refl refl
moves_spawn c caller entry arg error other false false once = moves_born c caller entry arg once

-- a join

moves_set : (c : ControlData) (caller target : ℕ) (old new : Fate) (made : Served) → AreParkedOnce c → IsActive c caller → slice_get c.fates target ≡ Some old → is_live old ≡ is_live new
    → ((t : ℕ) → (t ≡ caller → ⊥) → is_joiner t old ≡ is_joiner t new) → is_joiner caller old ≡ false
    → made.control ≡ record c { fates = slice_set c.fates target new } → made.woken ≡ [] → made.born ≡ None → Moves c caller made
moves_set c caller target old new made once active here lives joins mine e w b =
    let d : ControlData = record c { fates = slice_set c.fates target new } in
    let live : (t : ℕ) → is_live_at d.fates t ≡ is_live_at c.fates t = λ t. live_set c.fates target t old new here lives in
    moves_alone c caller made (subst AreParkedOnce (sym e) (λ t. ⊎_elim
    (λ (own : t ≡ caller). once_live d t (live t ∙ ap (is_live_at c.fates) own ∙ active.live)
    (let none : parkings c t ≡ 0 = ap (parkings c) own ∙ unparked c caller active in
    let count = count_set (is_joiner t) c.fates target old new here in
    let first : count_if (is_joiner t old) ≡ 0 = ap (λ n. count_if (is_joiner n old)) own ∙ ap count_if mine in
    omega (arith, none, count, first, at_most_one (is_joiner t new))))
    (λ (other : t ≡ caller → ⊥). still_once c d t once (live t)
    (let count = count_set (is_joiner t) c.fates target old new here in
    let same : count_if (is_joiner t old) ≡ count_if (is_joiner t new) = ap count_if (joins t other) in
    omega (arith, count, same)))
    (cases_eq t caller))) w b (λ t other. subst (λ x. IsAsBefore c x t) (sym e) (record { live = live t; waits = refl; joins = any_set (is_joiner t) c.fates target old new here (joins t other) })) where
      at_most_one : (z : Bool) → cond z 1 0 ≤ 1
      at_most_one true = omega arith
      at_most_one false = omega arith

moves_join_by : (c : ControlData) (caller target : ℕ) (o : Option Fate) → AreParkedOnce c → IsActive c caller → slice_get c.fates target ≡ o → Moves c caller (joined c caller target (join_by caller target o))
moves_join_by c caller target None once active e = moves_none c caller (joined c caller target NoThread) once refl refl refl refl
moves_join_by c caller target (Some (Exited code true)) once active e = moves_none c caller (joined c caller target NoThread) once refl refl refl refl
moves_join_by c caller target (Some (Exited code false)) once active e = by_own (target == caller) where
  by_own : (b : Bool) → Moves c caller (joined c caller target (cond b Invalid (Code code)))
  by_own true = moves_none c caller (joined c caller target Invalid) once refl refl refl refl
  by_own false = moves_set c caller target (Exited code false) (Exited code true) (joined c caller target (Code code)) once active e refl (λ t other. refl) refl refl refl refl
moves_join_by c caller target (Some (Live (Some joiner))) once active e = moves_none c caller (joined c caller target Invalid) once refl refl refl refl
moves_join_by c caller target (Some (Live None)) once active e = by_own (target == caller) where
  by_own : (b : Bool) → Moves c caller (joined c caller target (cond b Invalid Parked))
  by_own true = moves_none c caller (joined c caller target Invalid) once refl refl refl refl
  by_own false =
      moves_set c caller target (Live None) (Live (Some caller)) (joined c caller target Parked) once active e refl (λ t other. sym (ne_eqb caller t (λ s. other (sym s)))) refl refl refl refl

-- a thread is parked at a word

moves_wait : (c : ControlData) (caller addr error : ℕ) (same : Bool) → AreParkedOnce c → IsActive c caller
    → Moves c caller (cond same (parked (record c { waiters = c.waiters ++ (record { thread = caller; addr = addr }) ∷ [] })) (answered c error))
moves_wait c caller addr error false once active = moves_none c caller (answered c error) once refl refl refl refl
moves_wait c caller addr error true once active =
    let new : Waiter = record { thread = caller; addr = addr } in
    let d : ControlData = record c { waiters = c.waiters ++ new ∷ [] } in
    let count : (t : ℕ) → count_by (λ (w : Waiter). w.thread == t) d.waiters ≡ count_by (λ (w : Waiter). w.thread == t) c.waiters + count_if (caller == t) =
    λ t. omega (arith, sum_by-append (λ (w : Waiter). cond (w.thread == t) 1 0) c.waiters (new ∷ []), count_cons (λ (w : Waiter). w.thread == t) new []) in
    moves_alone c caller (parked d) (λ t. ⊎_elim
    (λ (own : t ≡ caller).
    let none : parkings c t ≡ 0 = ap (parkings c) own ∙ unparked c caller active in
    let one : count_if (caller == t) ≡ 1 = ap count_if (eq-eqb caller t (sym own)) in
    once_live d t (ap (is_live_at c.fates) own ∙ active.live) (omega (arith, none, one, count t)))
    (λ (other : t ≡ caller → ⊥).
    let no : count_if (caller == t) ≡ 0 = ap count_if (ne_eqb caller t (λ s. other (sym s))) in
    still_once c d t once refl (omega (arith, no, count t)))
    (cases_eq t caller)) refl refl (λ t other. record { live = refl; waits = any_append (λ (w : Waiter). w.thread == t) c.waiters new (ne_eqb caller t (λ s. other (sym s))); joins = refl })

-- threads are woken at a word

abbrev waits_in : ℕ → List Waiter → ℕ
waits_in t ws = count_by (λ w. w.thread == t) ws

gone_same : (t : ℕ) (ws : List Waiter) → waits_in t (filter (λ w. not (w.thread == t)) ws) ≡ 0
gone_same t [] = refl
gone_same t (w ∷ ws) = ⊎_elim
    (λ (here : (w.thread == t) ≡ true). rw here (gone_same t ws))
    (λ (past : (w.thread == t) ≡ false). rw past (count_cons (λ (v : Waiter). v.thread == t) w (filter (λ v. not (v.thread == t)) ws) ∙ rw (past, gone_same t ws) refl))
    (cases_Bool (w.thread == t))

gone_other : (t u : ℕ) (ws : List Waiter) → (t ≡ u → ⊥) → waits_in t (filter (λ w. not (w.thread == u)) ws) ≡ waits_in t ws
gone_other t u [] other = refl
gone_other t u (w ∷ ws) other = ⊎_elim
    (λ (here : (w.thread == u) ≡ true).
    let past : (w.thread == t) ≡ false = ne_eqb w.thread t (λ e. other (sym e ∙ eqb-true w.thread u here)) in
    let none : count_if (w.thread == t) ≡ 0 = ap count_if past in
    rw here (omega (arith, none, gone_other t u ws other, count_cons (λ (v : Waiter). v.thread == t) w ws)))
    (λ (kept : (w.thread == u) ≡ false).
    rw kept (count_cons (λ (v : Waiter). v.thread == t) w (filter (λ v. not (v.thread == u)) ws) ∙ ap (λ n. count_if (w.thread == t) + n) (gone_other t u ws other) ∙ sym (count_cons (λ (v : Waiter). v.thread == t) w ws)))
    (cases_Bool (w.thread == u))

found_waits : (addr u : ℕ) (ws : List Waiter) → longest_at addr ws ≡ Some u → is_waiting ws u ≡ true
found_waits addr u [] e = cc
found_waits addr u (w ∷ ws) e = ⊎_elim
    (λ (here : (w.addr == addr) ≡ true). let at : Some w.thread ≡ Some u = rw here at e in let same : w.thread ≡ u = cc in rw (eq-eqb w.thread u same) refl)
    (λ (past : (w.addr == addr) ≡ false). rw (found_waits addr u ws (rw past at e)) (or_true (w.thread == u)))
    (cases_Bool (w.addr == addr)) where
      or_true : (b : Bool) → (b || true) ≡ true
      or_true true = refl
      or_true false = refl

waiting_same : (t : ℕ) (a b : List Waiter) → waits_in t a ≡ waits_in t b → is_waiting a t ≡ is_waiting b t
waiting_same t a b e = ⊎_elim
    (λ (yes : is_waiting a t ≡ true). yes ∙ sym (⊎_elim
    (λ (both : is_waiting b t ≡ true). both)
    (λ (never : is_waiting b t ≡ false). absurd (omega (arith, e, none_counted (λ (w : Waiter). w.thread == t) b never, some_counted (λ (w : Waiter). w.thread == t) a yes)))
    (cases_Bool (is_waiting b t))))
    (λ (never : is_waiting a t ≡ false). never ∙ sym (none_passes (λ (w : Waiter). w.thread == t) b (sym e ∙ none_counted (λ (w : Waiter). w.thread == t) a never)))
    (cases_Bool (is_waiting a t))

-- whether a thread is one of these
abbrev is_one : ℕ → List ℕ → Bool
is_one t threads = list_any (λ u. u == t) threads

-- what a wake makes of one thread: it was parked at a word and isn't any more, or nothing changes
pub record IsWokenOrNot (t : ℕ) (threads : List ℕ) (old new : List Waiter) : Type 0 where
  pub was : is_one t threads ≡ true → is_waiting old t ≡ true
  pub gone : is_one t threads ≡ true → waits_in t new ≡ 0
  pub same : is_one t threads ≡ false → waits_in t new ≡ waits_in t old

woken_or_not : (t addr count : ℕ) (ws : List Waiter) → IsWokenOrNot t (woken addr count ws) ws (still_parked addr count ws)
unfolding woken still_parked
woken_or_not t addr zero ws = record { was = λ e. cc; gone = λ e. cc; same = λ e. refl }
woken_or_not t addr (suc count) ws = by_longest (woken_or_not t addr count) (longest_at addr ws) refl where
  by_longest : ((rest : List Waiter) → IsWokenOrNot t (woken addr count rest) rest (still_parked addr count rest)) → (o : Option ℕ) → longest_at addr ws ≡ o
      → IsWokenOrNot t (listed o (woken addr count (without_thread o ws))) ws (still_parked addr count (without_thread o ws))
  by_longest later None e = later ws
  by_longest later (Some u) e =
      let rest : List Waiter = without_thread (Some u) ws in
      let h : IsWokenOrNot t (woken addr count rest) rest (still_parked addr count rest) = later rest in
      ⊎_elim
      (λ (own : t ≡ u).
      let found : is_waiting ws t ≡ true = subst (λ n. is_waiting ws n ≡ true) (sym own) (found_waits addr u ws e) in
      let none : waits_in t rest ≡ 0 = subst (λ n. waits_in n rest ≡ 0) (sym own) (gone_same u ws) in
      let here : (u == t) ≡ true = eq-eqb u t (sym own) in
      record {
        was = λ f. found;
        gone = λ f. ⊎_elim (λ (again : is_one t (woken addr count rest) ≡ true). h.gone again) (λ (once : is_one t (woken addr count rest) ≡ false). h.same once ∙ none) (cases_Bool (is_one t (woken addr count rest)));
        same = λ f. let wrong : true ≡ false = rw here at f in cc;
      })
      (λ (other : t ≡ u → ⊥).
      let past : (u == t) ≡ false = ne_eqb u t (λ s. other (sym s)) in
      let kept : waits_in t rest ≡ waits_in t ws = gone_other t u ws other in
      record {
        was = λ f. sym (waiting_same t rest ws kept) ∙ h.was (rw past at f);
        gone = λ f. h.gone (rw past at f);
        same = λ f. h.same (rw past at f) ∙ kept;
      })
      (cases_eq t u)

woken_one : (t : ℕ) (threads : List ℕ) → is_woken t (map (woken_with 0) threads) ≡ is_one t threads
woken_one t [] = refl
woken_one t (u ∷ threads) = ap (λ b. (u == t) || b) (woken_one t threads)

moves_wake : (c : ControlData) (caller addr count value : ℕ) (made : Served) → AreParkedOnce c → made.control ≡ record c { waiters = still_parked addr count c.waiters }
    → made.woken ≡ map (woken_with 0) (woken addr count c.waiters) → made.born ≡ None → Moves c caller made
moves_wake c caller addr count value made once e ws b =
    let d : ControlData = record c { waiters = still_parked addr count c.waiters } in
    let h : (t : ℕ) → IsWokenOrNot t (woken addr count c.waiters) c.waiters d.waiters = λ t. woken_or_not t addr count c.waiters in
    let one : (t : ℕ) → is_woken t made.woken ≡ is_one t (woken addr count c.waiters) = λ t. ap (is_woken t) ws ∙ woken_one t (woken addr count c.waiters) in
    let fewer : (t : ℕ) → waits_in t d.waiters ≤ waits_in t c.waiters = λ t. ⊎_elim
    (λ (yes : is_one t (woken addr count c.waiters) ≡ true). omega (arith, (h t).gone yes))
    (λ (never : is_one t (woken addr count c.waiters) ≡ false). omega (arith, (h t).same never))
    (cases_Bool (is_one t (woken addr count c.waiters))) in
    record {
      parked = subst AreParkedOnce (sym e) (λ t. still_once c d t once refl (omega (arith, fewer t)));
      woken = λ t f.
          let yes : is_one t (woken addr count c.waiters) ≡ true = sym (one t) ∙ f in
          let some : 0 < waits_in t c.waiters = some_counted (λ (w : Waiter). w.thread == t) c.waiters ((h t).was yes) in
          let parked = once_parked c t once (omega (arith, some)) in
          subst (λ x. is_active x t ≡ true) (sym e) (active_unparked d t parked.live (omega (arith, some, parked.once, (h t).gone yes)));
      born = λ t f. let none : is_born t None ≡ true = subst (λ o. is_born t o ≡ true) b f in cc;
      others = λ t other f g.
          subst (λ x. is_active x t ≡ is_active c t) (sym e) (active_as_before c d t (record { live = refl; waits = waiting_same t d.waiters c.waiters ((h t).same (sym (one t) ∙ f)); joins = refl }));
    }

-- a thread exits

live_there : (fates : List Fate) (k : ℕ) → is_live_at fates k ≡ true → (joiner : Option ℕ) × (slice_get fates k ≡ Some (Live joiner))
live_there [] k e = cc
live_there (Live joiner ∷ fates) zero e = (joiner, refl)
live_there (Exited code joined ∷ fates) zero e = cc
live_there (f ∷ fates) (suc k) e = live_there fates k e

live_elsewhere : (fates : List Fate) (k t : ℕ) (fate : Fate) → (t ≡ k → ⊥) → is_live_at (slice_set fates k fate) t ≡ is_live_at fates t
live_elsewhere [] k t fate other = refl
live_elsewhere (f ∷ fates) zero zero fate other = absurd (other refl)
live_elsewhere (f ∷ fates) zero (suc t) fate other = refl
live_elsewhere (f ∷ fates) (suc k) zero fate other = refl
live_elsewhere (f ∷ fates) (suc k) (suc t) fate other = live_elsewhere fates k t fate (λ e. other (ap suc e))

-- whether an exit wakes a thread: where it is the joiner
woken_joiner : (t code : ℕ) (joiner : Option ℕ) → is_woken t (joiner_woken joiner code) ≡ is_joiner t (Live joiner)
woken_joiner t code None = refl
woken_joiner t code (Some u) = or_false (u == t) where
  or_false : (b : Bool) → (b || false) ≡ b
  or_false true = refl
  or_false false = refl

any_at : (t k : ℕ) (fate : Fate) (fates : List Fate) → slice_get fates k ≡ Some fate → is_joiner t fate ≡ true → is_joining fates t ≡ true
any_at t k fate [] e j = cc
any_at t zero fate (f ∷ fates) e j = let same : f ≡ fate = cc in rw (same, j) refl
any_at t (suc k) fate (f ∷ fates) e j = rw (any_at t k fate fates e j) (or_true (is_joiner t f)) where
  or_true : (b : Bool) → (b || true) ≡ true
  or_true true = refl
  or_true false = refl

moves_exit : (c : ControlData) (caller code : ℕ) (made : Served) (d : ControlData) → AreParkedOnce c → IsActive c caller → d.fates ≡ fates_exited c.fates caller code → d.waiters ≡ c.waiters
    → made.control ≡ d → made.woken ≡ joiner_woken (joiner_of c.fates caller) code → made.born ≡ None → Moves c caller made
moves_exit c caller code made d once active f p e ws b =
    let there = live_there c.fates caller active.live in
    let old : Fate = Live there.0 in
    let new : Fate = Exited code (is_some (joiner_of c.fates caller)) in
    let joiner : joiner_of c.fates caller ≡ there.0 = rw there.1 refl in
    let one : (t : ℕ) → is_woken t made.woken ≡ is_joiner t old = λ t. ap (is_woken t) ws ∙ ap (λ o. is_woken t (joiner_woken o code)) joiner ∙ woken_joiner t code there.0 in
    let words : (t : ℕ) → waits_in t d.waiters ≡ waits_in t c.waiters = λ t. ap (waits_in t) p in
    let joins : (t : ℕ) → count_by (is_joiner t) d.fates + count_if (is_joiner t old) ≡ count_by (is_joiner t) c.fates + 0 =
    λ t. ap (λ fs. count_by (is_joiner t) fs + count_if (is_joiner t old)) f ∙ count_set (is_joiner t) c.fates caller old new there.1 in
    let elsewhere : (t : ℕ) → (t ≡ caller → ⊥) → is_live_at d.fates t ≡ is_live_at c.fates t = λ t other. ap (λ fs. is_live_at fs t) f ∙ live_elsewhere c.fates caller t new other in
    record {
      parked = subst AreParkedOnce (sym e) (λ t. ⊎_elim
          (λ (own : t ≡ caller).
          let none : parkings c t ≡ 0 = ap (parkings c) own ∙ unparked c caller active in
          once_unparked d t (omega (arith, none, words t, joins t)))
          (λ (other : t ≡ caller → ⊥). still_once c d t once (elsewhere t other) (omega (arith, words t, joins t)))
          (cases_eq t caller));
      woken = λ t g.
          let joining : is_joiner t old ≡ true = sym (one t) ∙ g in
          let some : 0 < count_by (is_joiner t) c.fates = some_counted (is_joiner t) c.fates (any_at t caller old c.fates there.1 joining) in
          let parked = once_parked c t once (omega (arith, some)) in
          let counts : count_if (is_joiner t old) ≡ 1 = ap count_if joining in
          let other : t ≡ caller → ⊥ = λ own. omega (arith, some, ap (parkings c) own, unparked c caller active) in
          subst (λ x. is_active x t ≡ true) (sym e) (active_unparked d t (elsewhere t other ∙ parked.live) (omega (arith, some, parked.once, counts, words t, joins t)));
      born = λ t g. let none : is_born t None ≡ true = subst (λ o. is_born t o ≡ true) b g in cc;
      others = λ t other g h.
          subst (λ x. is_active x t ≡ is_active c t) (sym e) (active_as_before c d t (record {
            live = elsewhere t other;
            waits = ap (λ xs. is_waiting xs t) p;
            joins = ap (λ fs. is_joining fs t) f ∙ any_set (is_joiner t) c.fates caller old new there.1 (sym (one t) ∙ g);
          }));
    }

-- each request

moves_request : (w : Setup) (c : ControlData) (caller : ℕ) (request : Request) (word : ℕ) → AreParkedOnce c → IsActive c caller → Moves c caller (request_served w c caller request word)
moves_request w c caller (Call (Spawn entry arg)) word once active = moves_spawn c caller entry arg _ _ (not (nat_eq (entry % 4) 0)) (is_full w c.fates) once
moves_request w c caller (Call (JoinCall target)) word once active = moves_join_by c caller target (slice_get c.fates target) once active refl
moves_request w c caller (Call (Write bytes)) word once active = moves_none c caller _ once refl refl refl refl
moves_request w c caller (Call (FutexWait addr value)) word once active = moves_wait c caller addr _ (nat_eq word value) once active
moves_request w c caller (Call (FutexWake addr count)) word once active = moves_wake c caller addr count word _ once refl refl refl
moves_request w c caller (Call (Brk addr)) word once active = moves_none c caller _ once refl refl refl refl
moves_request w c caller (Call (ExitGroup code)) word once active = moves_none c caller _ once refl refl refl refl
moves_request w c caller (Exit code) word once active = let made : Served = request_served w c caller (Exit code) word in moves_exit c caller code made made.control once active refl refl refl refl refl
moves_request w c caller (Trap cause pc) word once active = moves_none c caller _ once refl refl refl refl

pub moves : (w : Setup) (c : ControlData) (caller : ℕ) (request : Request) (word : ℕ) (none_waits : Bool) → AreParkedOnce c → IsActive c caller → Moves c caller (serve w c caller request word none_waits)
moves w c caller request word none_waits once active =
    let h : Moves c caller (request_served w c caller request word) = moves_request w c caller request word once active in
    record { parked = h.parked; woken = h.woken; born = h.born; others = h.others }
