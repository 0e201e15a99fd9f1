-- One wake after another.
use Rattle.std.proofs.Common.{◌≡◌, ℕ, ◌+◌, ◌-◌, ◌<◌, ◌==◌, not, zero, suc, List, [], ◌∷◌, refl, arith}
use Rattle.std.specs.Prelude.{Some, None, filter}
use Rattle.serving.specs.declared.control_data.Waiter.{Waiter}
use Rattle.serving.specs.Wake.{longest_at, woken, still_parked}

pub none_woken : (addr n : ℕ) (waiters : List Waiter) → longest_at addr waiters ≡ None → woken addr n waiters ≡ []
unfolding woken
none_woken addr zero waiters e = refl
none_woken addr (suc n) waiters e = rw e (none_woken addr n waiters e)

pub none_leaves : (addr n : ℕ) (waiters : List Waiter) → longest_at addr waiters ≡ None → still_parked addr n waiters ≡ waiters
unfolding still_parked
none_leaves addr zero waiters e = refl
none_leaves addr (suc n) waiters e = rw e (none_leaves addr n waiters e)

woken-suc : (addr n thread : ℕ) (waiters : List Waiter) → longest_at addr waiters ≡ Some thread
    → woken addr (suc n) waiters ≡ thread ∷ woken addr n (filter (λ w. not (w.thread == thread)) waiters)
unfolding woken
woken-suc addr n thread waiters e = rw e refl

still_parked-suc : (addr n thread : ℕ) (waiters : List Waiter) → longest_at addr waiters ≡ Some thread
    → still_parked addr (suc n) waiters ≡ still_parked addr n (filter (λ w. not (w.thread == thread)) waiters)
unfolding still_parked
still_parked-suc addr n thread waiters e = rw e refl

-- the longest parked one is woken, and then those that are left
pub one_woken : (addr count done thread : ℕ) (waiters left : List Waiter) → done < count → longest_at addr waiters ≡ Some thread
    → left ≡ filter (λ w. not (w.thread == thread)) waiters → woken addr (count - done) waiters ≡ thread ∷ woken addr (count - (done + 1)) left
one_woken addr count done thread waiters left h e is =
    let more : count - done ≡ suc (count - (done + 1)) = omega arith in rw (more, is) (woken-suc addr (count - (done + 1)) thread waiters e)

pub one_leaves : (addr count done thread : ℕ) (waiters left : List Waiter) → done < count → longest_at addr waiters ≡ Some thread
    → left ≡ filter (λ w. not (w.thread == thread)) waiters → still_parked addr (count - done) waiters ≡ still_parked addr (count - (done + 1)) left
one_leaves addr count done thread waiters left h e is =
    let more : count - done ≡ suc (count - (done + 1)) = omega arith in rw (more, is) (still_parked-suc addr (count - (done + 1)) thread waiters e)

-- once as many are woken as may be, it is done
pub all_woken : (addr left : ℕ) (waiters : List Waiter) → left ≡ 0 → woken addr left waiters ≡ []
unfolding woken
all_woken addr left waiters e = rw e refl

pub all_left : (addr left : ℕ) (waiters : List Waiter) → left ≡ 0 → still_parked addr left waiters ≡ waiters
unfolding still_parked
all_left addr left waiters e = rw e refl
