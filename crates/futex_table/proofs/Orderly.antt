-- Entries with distinct keys: what they say of a thread, and that they stay orderly.
use Rattle.std.proofs.Common.{◌≡◌, ℕ, ◌-◌, ◌^◌, ◌<◌, ◌≤◌, true, false, not, List, [], ◌∷◌, ◌++◌, length, filter, find, eqb, nat_eq, Some, is_some, refl, ap, sym, ◌∙◌, subst, ⊎_elim, arith}
use Rattle.std.proofs.lemmas.Bool.{eqb-true, cases_Bool}
use Rattle.std.proofs.lemmas.Bool.Decides.{nat_tests}
use Rattle.std.proofs.lemmas.List.{map-append, length-map}
use Rattle.std.proofs.lemmas.List.Elements.{All-push, recursion_from_All}
use Rattle.std.proofs.lemmas.Map.Steps.{length-le_from_distinct_below}
use Rattle.std.proofs.lemmas.Map.Views.{All-map-remove_entry}
use Rattle.std.specs.List.{IsDistinct, AllByRecursion, list_any}
use Rattle.std.specs.Map.{keys_of, lookup, remove_entry}
use Rattle.std.specs.Option.{option_map}
use Rattle.indexmap.specs.IndexMap.{insert_entry}
use Rattle.serving.specs.declared.control_data.Waiter.{Waiter}
use Rattle.serving.specs.ControlData.{is_waiting}
use Rattle.serving.specs.Wake.{longest_at, without_thread}
use Rattle.futex_table.specs.Entries.{waiters_of, AreOrderly}

-- a thread is parked where it is a key
pub is_waiting-entries : (t : ℕ) (es : List (ℕ × ℕ)) → is_waiting (waiters_of es) t ≡ is_some (lookup (nat_eq t) es)
is_waiting-entries t [] = refl
is_waiting-entries t (e ∷ es) = grind (arith, nat_tests, is_waiting-entries t es)

-- the longest parked thread's entry is the first one
pub longest_at-entries : (addr : ℕ) (es : List (ℕ × ℕ)) → longest_at addr (waiters_of es) ≡ option_map (λ (e : ℕ × ℕ). e.0) (find (λ (e : ℕ × ℕ). nat_eq e.1 addr) es)
longest_at-entries addr [] = refl
longest_at-entries addr (e ∷ es) = ⊎_elim
    (λ (here : eqb e.1 addr ≡ true). rw here)
    (λ (past : eqb e.1 addr ≡ false). rw past (longest_at-entries addr es))
    (cases_Bool (eqb e.1 addr))

-- a thread that isn't parked comes last
pub insert_entry-parked : (t addr : ℕ) (es : List (ℕ × ℕ)) → is_waiting (waiters_of es) t ≡ false → insert_entry nat_eq es t addr ≡ es ++ (t, addr) ∷ []
insert_entry-parked t addr [] h = refl
insert_entry-parked t addr (e ∷ es) h = grind (arith, nat_tests, insert_entry-parked t addr es)

pub waiters_of-parked : (t addr : ℕ) (es new : List (ℕ × ℕ)) → is_waiting (waiters_of es) t ≡ false → new ≡ insert_entry nat_eq es t addr → waiters_of new ≡ waiters_of es ++ (record { thread = t; addr = addr }) ∷ []
waiters_of-parked t addr es new awake e = ap waiters_of (e ∙ insert_entry-parked t addr es awake) ∙ map-append _ es ((t, addr) ∷ [])

pub orderly_parked : (t addr : ℕ) (es new : List (ℕ × ℕ)) → AreOrderly es → t < 2 ^ 32 - 1 → is_waiting (waiters_of es) t ≡ false → new ≡ insert_entry nat_eq es t addr → IsDistinct nat_eq (keys_of new) → AreOrderly new
orderly_parked t addr es new h small awake e distinct = record {
  distinct = distinct;
  numbers = rw (e ∙ insert_entry-parked t addr es awake, map-append) (All-push (λ (k : ℕ). k < 2 ^ 32 - 1) (keys_of es) t h.numbers small);
}

-- a thread that is woken is gone, and the others stay
kept : (t : ℕ) (es : List (ℕ × ℕ)) → AllByRecursion (λ y. nat_eq t y ≡ false) (keys_of es) → filter (λ (w : Waiter). not (nat_eq w.thread t)) (waiters_of es) ≡ waiters_of es
kept t [] h = refl
kept t (e ∷ es) h =
    let apart : nat_eq e.0 t ≡ false = grind (arith, nat_tests, h.0) in
    rw (apart, kept t es h.1) refl

waiters_of-woken_by : (t : ℕ) (e : ℕ × ℕ) (es : List (ℕ × ℕ)) → AllByRecursion (λ y. nat_eq e.0 y ≡ false) (keys_of es) → waiters_of (remove_entry (nat_eq t) es) ≡ without_thread (Some t) (waiters_of es) → waiters_of (remove_entry (nat_eq t) (e ∷ es)) ≡ without_thread (Some t) (waiters_of (e ∷ es))
waiters_of-woken_by t e es apart h = ⊎_elim
    (λ (here : nat_eq t e.0 ≡ true).
    let same : t ≡ e.0 = eqb-true t e.0 here in
    let back : nat_eq e.0 t ≡ true = grind (arith, nat_tests) in
    let P : ℕ → Type 0 = λ k. AllByRecursion (λ y. nat_eq k y ≡ false) (keys_of es) in
    rw (here, back) (sym (kept t es (subst P (sym same) apart))))
    (λ (past : nat_eq t e.0 ≡ false).
    let back : nat_eq e.0 t ≡ false = grind (arith, nat_tests) in
    rw (past, back) (ap (λ ws. record { thread = e.0; addr = e.1 } ∷ ws) h))
    (cases_Bool (nat_eq t e.0))

pub waiters_of-woken : (t : ℕ) (es : List (ℕ × ℕ)) → IsDistinct nat_eq (keys_of es) → waiters_of (remove_entry (nat_eq t) es) ≡ without_thread (Some t) (waiters_of es)
unfolding IsDistinct
waiters_of-woken t [] h = refl
waiters_of-woken t (e ∷ es) h = waiters_of-woken_by t e es h.0 (waiters_of-woken t es h.1)

pub orderly_woken : (t : ℕ) (es new : List (ℕ × ℕ)) → AreOrderly es → new ≡ remove_entry (nat_eq t) es → IsDistinct nat_eq (keys_of new) → AreOrderly new
orderly_woken t es new h e distinct = record {
  distinct = distinct;
  numbers = rw e (All-map-remove_entry (nat_eq t) (λ (e : ℕ × ℕ). e.0) (λ (k : ℕ). k < 2 ^ 32 - 1) es h.numbers);
}

-- there are fewer than 2 ^ 32 of them
below : (n q : ℕ) (ks : List ℕ) → AllByRecursion (λ k. k < n) ks → list_any (nat_eq q) ks ≡ true → q < n
below n q [] h any = cc
below n q (k ∷ ks) h any = ⊎_elim
    (λ (here : nat_eq q k ≡ true). omega (arith, eqb-true q k here, h.0))
    (λ (past : nat_eq q k ≡ false). below n q ks h.1 (rw past at any))
    (cases_Bool (nat_eq q k))

pub few_entries : (es : List (ℕ × ℕ)) → AreOrderly es → length es < 2 ^ 32
few_entries es h =
    let few : length (keys_of es) ≤ 2 ^ 32 - 1 = length-le_from_distinct_below (keys_of es) (2 ^ 32 - 1) h.distinct (λ q any. below (2 ^ 32 - 1) q (keys_of es) (recursion_from_All _ (keys_of es) h.numbers) any) in
    omega (arith, length-map es (λ (e : ℕ × ℕ). e.0))
