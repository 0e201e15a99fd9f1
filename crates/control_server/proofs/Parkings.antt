-- In how many places threads are parked, and who is active, once control data have changed.
use Rattle.std.proofs.Common.{◌≡◌, ℕ, ◌+◌, ◌<◌, ◌≤◌, ◌==◌, Bool, true, false, cond, List, [], ◌∷◌, count_by, slice_get, slice_set, Some, zero, suc, refl, ap, sym, ◌∙◌, ⊎_elim, arith}
use Rattle.std.specs.Prelude.{◌||◌}
use Rattle.std.specs.List.{list_any}
use Rattle.std.proofs.lemmas.Bool.{cases_Bool}
use Rattle.std.proofs.lemmas.List.Sums.{sum_by-cons}
use Rattle.thread_table.specs.Threads.{is_live_at}
use Rattle.serving.specs.declared.control_data.Fate.{Fate}
use Rattle.serving.specs.declared.control_data.Waiter.{Waiter}
use Rattle.serving.specs.ControlData.{ControlData, is_live, is_waiting, is_joiner, is_joining}
use Rattle.control_server.specs.Control.{is_active, parkings, AreParkedOnce}
use Rattle.control_server.proofs.Active.{IsActive, active_from}

-- counts and tests

abbrev one_if : Bool → ℕ
one_if b = cond b 1 0

pub count_cons : {A : Type 0} (p : A → Bool) (x : A) (xs : List A) → count_by p (x ∷ xs) ≡ one_if (p x) + count_by p xs
count_cons p x xs = sum_by-cons (λ y. cond (p y) 1 0) x xs

pub none_counted : {A : Type 0} (p : A → Bool) (xs : List A) → list_any p xs ≡ false → count_by p xs ≡ 0
none_counted p [] e = refl
none_counted p (x ∷ xs) e = ⊎_elim
    (λ (yes : p x ≡ true). let wrong : true ≡ false = rw yes at e in cc)
    (λ (no : p x ≡ false). let rest : count_by p xs ≡ 0 = none_counted p xs (rw no at e) in count_cons p x xs ∙ rw (no, rest) refl)
    (cases_Bool (p x))

pub none_passes : {A : Type 0} (p : A → Bool) (xs : List A) → count_by p xs ≡ 0 → list_any p xs ≡ false
none_passes p [] e = refl
none_passes p (x ∷ xs) e =
    let whole : one_if (p x) + count_by p xs ≡ 0 = sym (count_cons p x xs) ∙ e in
    ⊎_elim
    (λ (yes : p x ≡ true). let more : 1 + count_by p xs ≡ 0 = rw yes at whole in absurd (omega (arith, more)))
    (λ (no : p x ≡ false). let rest : 0 + count_by p xs ≡ 0 = rw no at whole in rw no (none_passes p xs (omega (arith, rest))))
    (cases_Bool (p x))

pub some_counted : {A : Type 0} (p : A → Bool) (xs : List A) → list_any p xs ≡ true → 0 < count_by p xs
some_counted p [] e = cc
some_counted p (x ∷ xs) e = ⊎_elim
    (λ (yes : p x ≡ true). let one : one_if (p x) ≡ 1 = ap one_if yes in omega (arith, count_cons p x xs, one))
    (λ (no : p x ≡ false). omega (arith, count_cons p x xs, some_counted p xs (rw no at e)))
    (cases_Bool (p x))

-- one element is replaced
pub count_set : {A : Type 0} (p : A → Bool) (xs : List A) (k : ℕ) (old new : A) → slice_get xs k ≡ Some old → count_by p (slice_set xs k new) + one_if (p old) ≡ count_by p xs + one_if (p new)
count_set p [] k old new e = cc
count_set p (x ∷ xs) zero old new e =
    let same : one_if (p x) ≡ one_if (p old) = ap (λ y. one_if (p y)) cc in
    omega (arith, same, count_cons p x xs, count_cons p new xs)
count_set p (x ∷ xs) (suc k) old new e = omega (arith, count_set p xs k old new e, count_cons p x xs, count_cons p x (slice_set xs k new))

pub any_set : {A : Type 0} (p : A → Bool) (xs : List A) (k : ℕ) (old new : A) → slice_get xs k ≡ Some old → p old ≡ p new → list_any p (slice_set xs k new) ≡ list_any p xs
any_set p [] k old new e s = cc
any_set p (x ∷ xs) zero old new e s = let same : x ≡ old = cc in rw (same, s) refl
any_set p (x ∷ xs) (suc k) old new e s = ap (λ b. p x || b) (any_set p xs k old new e s)

pub live_set : (fates : List Fate) (k t : ℕ) (old new : Fate) → slice_get fates k ≡ Some old → is_live old ≡ is_live new → is_live_at (slice_set fates k new) t ≡ is_live_at fates t
live_set [] k t old new e s = cc
live_set (f ∷ fates) zero zero old new e s = let same : f ≡ old = cc in rw (same, s) refl
live_set (f ∷ fates) zero (suc t) old new e s = refl
live_set (f ∷ fates) (suc k) zero old new e s = refl
live_set (f ∷ fates) (suc k) (suc t) old new e s = live_set fates k t old new e s

-- what changed for a thread: nothing
pub record IsAsBefore (c d : ControlData) (t : ℕ) : Type 0 where
  pub live : is_live_at d.fates t ≡ is_live_at c.fates t
  pub waits : is_waiting d.waiters t ≡ is_waiting c.waiters t
  pub joins : is_joining d.fates t ≡ is_joining c.fates t

pub active_as_before : (c d : ControlData) (t : ℕ) → IsAsBefore c d t → is_active d t ≡ is_active c t
active_as_before c d t h = rw (h.live, h.waits, h.joins) refl

-- a thread that isn't parked and lives is active
pub active_unparked : (c : ControlData) (t : ℕ) → is_live_at c.fates t ≡ true → parkings c t ≡ 0 → is_active c t ≡ true
active_unparked c t live none = active_from c t (record {
  live = live;
  awake = none_passes (λ (w : Waiter). w.thread == t) c.waiters (omega (arith, none));
  alone = none_passes (is_joiner t) c.fates (omega (arith, none));
})

-- an active thread is parked nowhere
pub unparked : (c : ControlData) (t : ℕ) → IsActive c t → parkings c t ≡ 0
unparked c t h =
    let words : count_by (λ (w : Waiter). w.thread == t) c.waiters ≡ 0 = none_counted (λ (w : Waiter). w.thread == t) c.waiters h.awake in
    let joins : count_by (is_joiner t) c.fates ≡ 0 = none_counted (is_joiner t) c.fates h.alone in
    omega (arith, words, joins)

-- a parked thread is live, and parked once
pub record IsOnceParked (c : ControlData) (t : ℕ) : Type 0 where
  pub live : is_live_at c.fates t ≡ true
  pub once : parkings c t ≤ 1

live_if : (live : Bool) (n : ℕ) → n ≤ cond live 1 0 → 0 < n → (live ≡ true) × (n ≤ 1)
live_if true n h some = (refl, h)
live_if false n h some = absurd (omega (arith, h, some))

pub once_parked : (c : ControlData) (t : ℕ) → AreParkedOnce c → 0 < parkings c t → IsOnceParked c t
once_parked c t h some = let p = live_if (is_live_at c.fates t) (parkings c t) (h t) some in record { live = p.0; once = p.1 }

-- each is parked once at most still: where a thread is parked no more often, and lives as before
if_less : (live : Bool) (a b : ℕ) → b ≤ a → a ≤ cond live 1 0 → b ≤ cond live 1 0
if_less live a b less h = omega (arith, less, h)

pub still_once : (c d : ControlData) (t : ℕ) → AreParkedOnce c → is_live_at d.fates t ≡ is_live_at c.fates t → parkings d t ≤ parkings c t → parkings d t ≤ cond (is_live_at d.fates t) 1 0
still_once c d t h live less = rw live (if_less (is_live_at c.fates t) (parkings c t) (parkings d t) less (h t))

pub once_unparked : (d : ControlData) (t : ℕ) → parkings d t ≡ 0 → parkings d t ≤ cond (is_live_at d.fates t) 1 0
once_unparked d t none = rw none (omega arith)

pub once_live : (d : ControlData) (t : ℕ) → is_live_at d.fates t ≡ true → parkings d t ≤ 1 → parkings d t ≤ cond (is_live_at d.fates t) 1 0
once_live d t live few = rw live few
