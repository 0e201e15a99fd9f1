-- Whether all live threads are parked, thread by thread.
use Rattle.std.proofs.Common.{◌≡◌, ℕ, ◌+◌, ◌<◌, ◌&&◌, Bool, true, false, not, List, [], ◌∷◌, length, zero, suc, refl, sym, ◌∙◌, if◌then◌else◌, arith, subst, ⊎_elim}
use Rattle.std.specs.Prelude.{◌||◌}
use Rattle.std.specs.List.{list_all}
use Rattle.std.proofs.lemmas.Bool.{and_right, cases_eq}
use Rattle.thread_table.specs.Threads.{is_live_at}
use Rattle.serving.specs.declared.control_data.Fate.{Fate}
use Rattle.serving.specs.ControlData.{ControlData, is_live, is_parked, live_from}
use Rattle.serving.specs.Serving.{are_all_parked}
use Rattle.control_server.specs.Control.{is_active}

-- whether the thread with a number is live and isn't parked
abbrev goes_on : (ℕ → Bool) → List Fate → ℕ → ℕ → Bool
goes_on parked fates k number = is_live_at fates k && not (parked number)

list_all-cond : (p : ℕ → Bool) (live : Bool) (s : ℕ) (xs : List ℕ) → list_all p (if live then s ∷ xs else xs) ≡ ((not live || p s) && list_all p xs)
list_all-cond p true s xs = refl
list_all-cond p false s xs = refl

both_parked : (live parked rest : Bool) → (live && not parked) ≡ false → rest ≡ true → ((not live || parked) && rest) ≡ true
both_parked true true rest e r = r
both_parked true false rest e r = cc
both_parked false parked rest e r = r

first_goes_on : (live parked rest : Bool) → (live && not parked) ≡ true → ((not live || parked) && rest) ≡ false
first_goes_on true true rest e = cc
first_goes_on true false rest e = refl
first_goes_on false parked rest e = cc

parked_from : (p : ℕ → Bool) (s : ℕ) (fates : List Fate) → ((k number : ℕ) → k < length fates → s + k ≡ number → goes_on p fates k number ≡ false) → list_all p (live_from s fates) ≡ true
parked_from p s [] h = refl
parked_from p s (fate ∷ fates) h =
    let rest = parked_from p (s + 1) fates (λ k number less e. h (suc k) number (omega arith) (omega arith)) in
    list_all-cond p (is_live fate) s (live_from (s + 1) fates) ∙ both_parked (is_live fate) (p s) (list_all p (live_from (s + 1) fates)) (h 0 s (omega arith) (omega arith)) rest

one_goes_on : (p : ℕ → Bool) (s k number : ℕ) (fates : List Fate) → k < length fates → s + k ≡ number → goes_on p fates k number ≡ true → list_all p (live_from s fates) ≡ false
one_goes_on p s k number [] less e h = absurd (omega arith)
one_goes_on p s zero number (fate ∷ fates) less e h =
    let at : number ≡ s = omega arith in
    let here : (is_live fate && not (p s)) ≡ true = subst (λ n. (is_live fate && not (p n)) ≡ true) at h in
    list_all-cond p (is_live fate) s (live_from (s + 1) fates) ∙ first_goes_on (is_live fate) (p s) (list_all p (live_from (s + 1) fates)) here
one_goes_on p s (suc k) number (fate ∷ fates) less e h =
    list_all-cond p (is_live fate) s (live_from (s + 1) fates) ∙ and_right (not (is_live fate) || p s) (list_all p (live_from (s + 1) fates)) (one_goes_on p (s + 1) k number fates (omega arith) (omega arith) h)

-- all live threads are parked where none of the threads is active
pub all_parked : (c : ControlData) → ((k : ℕ) → k < length c.fates → is_active c k ≡ false) → are_all_parked c ≡ true
all_parked c h = parked_from (is_parked c) 0 c.fates (λ k number less e. let at : number ≡ k = omega arith in subst (λ n. goes_on (is_parked c) c.fates k n ≡ false) (sym at) (h k less))

pub not_all_parked : (c : ControlData) (k : ℕ) → k < length c.fates → is_active c k ≡ true → are_all_parked c ≡ false
not_all_parked c k less h = one_goes_on (is_parked c) 0 k k c.fates less (omega arith) h

-- from 0 up to a thread, none is active
pub none_below : (c : ControlData) (n : ℕ) → ((k : ℕ) → k < n → is_active c k ≡ false) → is_active c n ≡ false → (k : ℕ) → k < n + 1 → is_active c k ≡ false
none_below c n h at k less = ⊎_elim
    (λ (same : k ≡ n). subst (λ m. is_active c m ≡ false) (sym same) at)
    (λ (apart : k ≡ n → ⊥). h k (omega arith))
    (cases_eq k n)
