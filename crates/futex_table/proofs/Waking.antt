-- A wake of at most so many threads is made of wakes of one, and no more are woken than are parked.
use Rattle.std.proofs.Common.{◌≡◌, ℕ, ◌+◌, ◌-◌, ◌<◌, ◌≤◌, Bool, true, false, cond, not, min, List, [], ◌∷◌, ◌++◌, length, filter, find, eqb, Option, Some, None, zero, suc, refl, ap, sym, ◌∙◌, subst, ⊎_elim, arith}
use Rattle.std.proofs.Math.Nat.{min-eq_left, min-eq_right}
use Rattle.std.proofs.lemmas.Bool.{cases_lt, eq-eqb}
use Rattle.std.proofs.lemmas.List.{append_assoc, append-nil}
use Rattle.std.proofs.lemmas.List.Sums.{length-filter, count_by-le-length}
use Rattle.std.specs.Option.{option_map}
use Rattle.serving.specs.declared.control_data.Waiter.{Waiter}
use Rattle.serving.specs.Wake.{woken, still_parked, longest_at, waits_at, without_thread, listed}

-- one thread is woken, and then the rest
woken_more : (addr n m : ℕ) (ws : List Waiter) → n ≡ suc m → woken addr n ws ≡ listed (longest_at addr ws) (woken addr m (without_thread (longest_at addr ws) ws))
unfolding woken
woken_more addr n m ws e = rw e

still_parked_more : (addr n m : ℕ) (ws : List Waiter) → n ≡ suc m → still_parked addr n ws ≡ still_parked addr m (without_thread (longest_at addr ws) ws)
unfolding still_parked
still_parked_more addr n m ws e = rw e

-- nobody is woken where the number is 0
woken_zero : (addr n : ℕ) (ws : List Waiter) → n ≡ 0 → woken addr n ws ≡ []
unfolding woken
woken_zero addr n ws e = rw e

still_parked_zero : (addr n : ℕ) (ws : List Waiter) → n ≡ 0 → still_parked addr n ws ≡ ws
unfolding still_parked
still_parked_zero addr n ws e = rw e

-- nobody is woken where nobody is parked at the address
woken_none : (addr n : ℕ) (ws : List Waiter) → longest_at addr ws ≡ None → woken addr n ws ≡ []
woken_none addr zero ws e = woken_zero addr zero ws refl
woken_none addr (suc n) ws e = woken_more addr (suc n) n ws refl ∙ rw e (woken_none addr n ws e)

still_parked_none : (addr n : ℕ) (ws : List Waiter) → longest_at addr ws ≡ None → still_parked addr n ws ≡ ws
still_parked_none addr zero ws e = still_parked_zero addr zero ws refl
still_parked_none addr (suc n) ws e = still_parked_more addr (suc n) n ws refl ∙ rw e (still_parked_none addr n ws e)

-- who is woken isn't parked any more
length-filter-le : {X : Type 0} (p : X → Bool) (xs : List X) → length (filter p xs) ≤ length xs
length-filter-le p xs = omega (arith, length-filter p xs, count_by-le-length p xs)

length-cond-le : {X : Type 0} (b : Bool) (x : X) (xs : List X) → length (cond b (x ∷ xs) xs) ≤ suc (length xs)
length-cond-le true x xs = omega arith
length-cond-le false x xs = omega arith

shorter_by : (addr t : ℕ) (w : Waiter) (ws : List Waiter) (here : Bool) → option_map (λ (v : Waiter). v.thread) (cond here (Some w) (find (waits_at addr) ws)) ≡ Some t → (longest_at addr ws ≡ Some t → length (without_thread (Some t) ws) < length ws) → length (without_thread (Some t) (w ∷ ws)) < suc (length ws)
shorter_by addr t w ws true e h =
    let same : w.thread ≡ t = cc in
    let gone : eqb w.thread t ≡ true = eq-eqb w.thread t same in
    rw gone (omega (arith, length-filter-le (λ (v : Waiter). not (eqb v.thread t)) ws))
shorter_by addr t w ws false e h =
    omega (arith, h e, length-cond-le (not (eqb w.thread t)) w (without_thread (Some t) ws))

shorter : (addr t : ℕ) (ws : List Waiter) → longest_at addr ws ≡ Some t → length (without_thread (Some t) ws) < length ws
shorter addr t [] e = cc
shorter addr t (w ∷ ws) e = shorter_by addr t w ws (waits_at addr w) e (shorter addr t ws)

-- two numbers wake the same threads
pub record WakesAlike (addr n m : ℕ) (ws : List Waiter) : Type 0 where
  pub woken : woken addr n ws ≡ woken addr m ws
  pub still : still_parked addr n ws ≡ still_parked addr m ws

alike_none : (addr n m : ℕ) (ws : List Waiter) → longest_at addr ws ≡ None → WakesAlike addr n m ws
alike_none addr n m ws e = record {
  woken = woken_none addr n ws e ∙ sym (woken_none addr m ws e);
  still = still_parked_none addr n ws e ∙ sym (still_parked_none addr m ws e);
}

alike_by : (addr n m : ℕ) (ws : List Waiter) (o : Option ℕ) → longest_at addr ws ≡ o → ((t : ℕ) → longest_at addr ws ≡ Some t → WakesAlike addr n m (without_thread (Some t) ws)) → WakesAlike addr (suc n) (suc m) ws
alike_by addr n m ws None e h = alike_none addr (suc n) (suc m) ws e
alike_by addr n m ws (Some t) e h =
    let woken_n : woken addr (suc n) ws ≡ t ∷ woken addr n (without_thread (Some t) ws) = rw (woken_more addr (suc n) n ws refl, e) refl in
    let woken_m : woken addr (suc m) ws ≡ t ∷ woken addr m (without_thread (Some t) ws) = rw (woken_more addr (suc m) m ws refl, e) refl in
    let still_n : still_parked addr (suc n) ws ≡ still_parked addr n (without_thread (Some t) ws) = rw (still_parked_more addr (suc n) n ws refl, e) refl in
    let still_m : still_parked addr (suc m) ws ≡ still_parked addr m (without_thread (Some t) ws) = rw (still_parked_more addr (suc m) m ws refl, e) refl in
    record {
      woken = woken_n ∙ ap (λ ts. t ∷ ts) (h t e).woken ∙ sym woken_m;
      still = still_n ∙ (h t e).still ∙ sym still_m;
    }

-- so do any two that are no less than how many are parked
alike : (addr n m : ℕ) (ws : List Waiter) → length ws ≤ n → length ws ≤ m → WakesAlike addr n m ws
alike addr zero m [] p q = alike_none addr zero m [] refl
alike addr zero m (w ∷ ws) p q = absurd (omega arith)
alike addr (suc n) zero [] p q = alike_none addr (suc n) zero [] refl
alike addr (suc n) zero (w ∷ ws) p q = absurd (omega arith)
alike addr (suc n) (suc m) ws p q =
    alike_by addr n m ws (longest_at addr ws) refl (λ t e. alike addr n m (without_thread (Some t) ws) (omega (arith, shorter addr t ws e)) (omega (arith, shorter addr t ws e)))

pub alike_min : (addr count : ℕ) (ws : List Waiter) → WakesAlike addr (min count (length ws)) count ws
alike_min addr count ws =
    let P : ℕ → Type 0 = λ n. WakesAlike addr n count ws in
    ⊎_elim
    (λ (few : count < length ws). subst P (sym (min-eq_left (omega arith))) (record { woken = refl; still = refl }))
    (λ (enough : length ws ≤ count). subst P (sym (min-eq_right (omega arith))) (alike addr (length ws) count ws (omega arith) enough))
    (cases_lt count (length ws))

-- a wake is on its way: after so many wakes of one, these were woken, and these are parked still
pub record IsWaking (addr most i : ℕ) (before now : List Waiter) (threads : List ℕ) : Type 0 where
  pub woken : threads ++ woken addr (most - i) now ≡ woken addr most before
  pub still : still_parked addr (most - i) now ≡ still_parked addr most before

pub waking_none : (addr most : ℕ) (ws : List Waiter) → IsWaking addr most 0 ws ws []
waking_none addr most ws =
    let all : most - 0 ≡ most = omega arith in
    record { woken = rw all refl; still = rw all refl }

pub waking_more : (addr most i t : ℕ) (before now next : List Waiter) (threads : List ℕ) → IsWaking addr most i before now threads → i < most → longest_at addr now ≡ Some t → next ≡ without_thread (longest_at addr now) now → IsWaking addr most (i + 1) before next (threads ++ t ∷ [])
waking_more addr most i t before now next threads h less e n =
    let left : most - i ≡ suc (most - (i + 1)) = omega arith in
    let first = woken_more addr (most - i) (most - (i + 1)) now left in
    let rest = still_parked_more addr (most - i) (most - (i + 1)) now left in
    let ws : next ≡ without_thread (Some t) now = n ∙ ap (λ o. without_thread o now) e in
    record {
      woken = append_assoc threads (t ∷ []) (woken addr (most - (i + 1)) next) ∙ rw ws (ap (λ ts. threads ++ ts) (sym (first ∙ rw e refl)) ∙ h.woken);
      still = rw ws (sym (rest ∙ rw e refl) ∙ h.still);
    }

-- it is over: as many as that, or all that are parked at the address, were woken
pub record HasWoken (addr count : ℕ) (before now : List Waiter) (threads : List ℕ) : Type 0 where
  pub woken : threads ≡ woken addr count before
  pub still : now ≡ still_parked addr count before

pub waking_all : (addr most i : ℕ) (before now : List Waiter) (threads : List ℕ) → IsWaking addr most i before now threads → most ≤ i → HasWoken addr most before now threads
waking_all addr most i before now threads h done =
    let none : most - i ≡ 0 = omega arith in
    record {
      woken = sym (append-nil threads) ∙ ap (λ ts. threads ++ ts) (sym (woken_zero addr (most - i) now none)) ∙ h.woken;
      still = sym (still_parked_zero addr (most - i) now none) ∙ h.still;
    }

pub waking_stopped : (addr most i : ℕ) (before now next : List Waiter) (threads : List ℕ) → IsWaking addr most i before now threads → longest_at addr now ≡ None → next ≡ without_thread (longest_at addr now) now → HasWoken addr most before next threads
waking_stopped addr most i before now next threads h e n = record {
  woken = sym (append-nil threads) ∙ ap (λ ts. threads ++ ts) (sym (woken_none addr (most - i) now e)) ∙ h.woken;
  still = n ∙ ap (λ o. without_thread o now) e ∙ sym (still_parked_none addr (most - i) now e) ∙ h.still;
}

-- it is enough to wake as many as are parked
pub woken_all : (addr count most : ℕ) (before now : List Waiter) (threads : List ℕ) → most ≡ min count (length before) → HasWoken addr most before now threads → HasWoken addr count before now threads
woken_all addr count most before now threads e h =
    let alike = alike_min addr count before in
    record {
      woken = h.woken ∙ ap (λ n. woken addr n before) e ∙ alike.woken;
      still = h.still ∙ ap (λ n. still_parked addr n before) e ∙ alike.still;
    }
