-- The threads of active members are in ascending order, whoever joins or leaves, and these are they.
use Rattle.std.proofs.Common.{◌≡◌, ℕ, ◌+◌, ◌<◌, ◌≤◌, ◌==◌, Bool, true, false, cond, List, [], ◌∷◌, map, filter, eqb, ltb, zero, suc, Some, refl, ap, sym, ◌∙◌, ⊎_elim, arith}
use Rattle.std.specs.Prelude.{◌||◌}
use Rattle.std.specs.List.{list_any, range_with_len}
use Rattle.std.proofs.lemmas.Bool.{cases_Bool, cases_eq, eq-eqb, eqb-true, ne_eqb}
use Rattle.std.proofs.lemmas.Bool.Decides.{nat_tests}
use Rattle.clock_policy.specs.declared.members.Member.{Member}
use Rattle.clock_policy.specs.Members.{Standing, nobody, some_unreached, all_reached, with_member, without_member, with_report, reported, renewed}
use Rattle.clock_policy.specs.Epoch.{Epoch, advanced_by}

abbrev pub threads_of : List Member → List ℕ
threads_of members = map (λ m. m.thread) members

-- numbers ascend, from a number on
abbrev pub IsAscendingFrom : ℕ → List ℕ → Type 0
IsAscendingFrom n [] = Unit {0}
IsAscendingFrom n (k ∷ ks) = (n ≤ k) × IsAscendingFrom (k + 1) ks

-- whether a list has a number
abbrev pub has : ℕ → List ℕ → Bool
has t ks = list_any (λ k. k == t) ks

from_lower : (a b : ℕ) (ks : List ℕ) → a ≤ b → IsAscendingFrom b ks → IsAscendingFrom a ks
from_lower a b [] less h = tt
from_lower a b (k ∷ ks) less h = (omega (arith, less, h.0), h.1)

pub has_none_below : (t n : ℕ) (ks : List ℕ) → IsAscendingFrom n ks → t < n → has t ks ≡ false
has_none_below t n [] h less = refl
has_none_below t n (k ∷ ks) h less =
    let apart : (k == t) ≡ false = ne_eqb k t (λ e. omega (arith, e, h.0, less)) in
    rw apart (has_none_below t (k + 1) ks h.1 (omega (arith, h.0, less)))

-- a thread joins
pub ascending_with : (n thread : ℕ) (ms : List Member) → n ≤ thread → IsAscendingFrom n (threads_of ms) → IsAscendingFrom n (threads_of (with_member thread ms))
ascending_with n thread [] less h = (less, tt)
ascending_with n thread (m ∷ ms) less h = ⊎_elim
    (λ (same : eqb thread m.thread ≡ true). rw same h)
    (λ (apart : eqb thread m.thread ≡ false). ⊎_elim
    (λ (lower : ltb thread m.thread ≡ true). let above : thread + 1 ≤ m.thread = grind (arith, nat_tests) in rw (apart, lower) (less, (above, h.1)))
    (λ (higher : ltb thread m.thread ≡ false). let above : m.thread + 1 ≤ thread = grind (arith, nat_tests) in rw (apart, higher) (h.0, ascending_with (m.thread + 1) thread ms above h.1))
    (cases_Bool (ltb thread m.thread)))
    (cases_Bool (eqb thread m.thread))

or_true : (b : Bool) → (b || true) ≡ true
or_true true = refl
or_true false = refl

pub has_with_same : (thread : ℕ) (ms : List Member) → has thread (threads_of (with_member thread ms)) ≡ true
has_with_same thread [] = rw (eq-eqb thread thread refl) refl
has_with_same thread (m ∷ ms) = ⊎_elim
    (λ (same : eqb thread m.thread ≡ true). let here : eqb m.thread thread ≡ true = grind (arith, nat_tests) in rw (same, here) refl)
    (λ (apart : eqb thread m.thread ≡ false). ⊎_elim
    (λ (lower : ltb thread m.thread ≡ true). rw (apart, lower, eq-eqb thread thread refl) refl)
    (λ (higher : ltb thread m.thread ≡ false). rw (apart, higher, has_with_same thread ms) (or_true (eqb m.thread thread)))
    (cases_Bool (ltb thread m.thread)))
    (cases_Bool (eqb thread m.thread))

pub has_with_other : (t thread : ℕ) (ms : List Member) → (t ≡ thread → ⊥) → has t (threads_of (with_member thread ms)) ≡ has t (threads_of ms)
has_with_other t thread [] other = rw (ne_eqb thread t (λ e. other (sym e))) refl
has_with_other t thread (m ∷ ms) other =
    let past : eqb thread t ≡ false = ne_eqb thread t (λ e. other (sym e)) in
    ⊎_elim
    (λ (same : eqb thread m.thread ≡ true). rw same refl)
    (λ (apart : eqb thread m.thread ≡ false). ⊎_elim
    (λ (lower : ltb thread m.thread ≡ true). rw (apart, lower, past) refl)
    (λ (higher : ltb thread m.thread ≡ false). rw (apart, higher, has_with_other t thread ms other) refl)
    (cases_Bool (ltb thread m.thread)))
    (cases_Bool (eqb thread m.thread))

-- a thread leaves
pub ascending_filter : (p : Member → Bool) (n : ℕ) (ms : List Member) → IsAscendingFrom n (threads_of ms) → IsAscendingFrom n (threads_of (filter p ms))
ascending_filter p n [] h = tt
ascending_filter p n (m ∷ ms) h =
    let rest : IsAscendingFrom (m.thread + 1) (threads_of (filter p ms)) = ascending_filter p (m.thread + 1) ms h.1 in
    ⊎_elim
    (λ (kept : p m ≡ true). rw kept (h.0, rest))
    (λ (gone : p m ≡ false). rw gone (from_lower n (m.thread + 1) (threads_of (filter p ms)) (omega (arith, h.0)) rest))
    (cases_Bool (p m))

pub has_without_same : (thread : ℕ) (ms : List Member) → has thread (threads_of (without_member thread ms)) ≡ false
has_without_same thread [] = refl
has_without_same thread (m ∷ ms) = ⊎_elim
    (λ (same : eqb m.thread thread ≡ true). rw same (has_without_same thread ms))
    (λ (apart : eqb m.thread thread ≡ false). rw apart (rw apart (has_without_same thread ms)))
    (cases_Bool (eqb m.thread thread))

pub has_without_other : (t thread : ℕ) (ms : List Member) → (t ≡ thread → ⊥) → has t (threads_of (without_member thread ms)) ≡ has t (threads_of ms)
has_without_other t thread [] other = refl
has_without_other t thread (m ∷ ms) other = ⊎_elim
    (λ (same : eqb m.thread thread ≡ true).
    let past : eqb m.thread t ≡ false = ne_eqb m.thread t (λ e. other (sym e ∙ eqb-true m.thread thread same)) in
    rw (same, past) (has_without_other t thread ms other))
    (λ (apart : eqb m.thread thread ≡ false). rw apart (ap (λ b. (m.thread == t) || b) (has_without_other t thread ms other)))
    (cases_Bool (eqb m.thread thread))

-- a report changes nobody's being a member, nor does the next epoch
same_thread : (thread tile : ℕ) (m : Member) → (with_report thread tile m).thread ≡ m.thread
same_thread thread tile m = of_test (m.thread == thread) where
  of_test : (b : Bool) → (cond b (record m { reached = Some tile }) m).thread ≡ m.thread
  of_test true = refl
  of_test false = refl

pub threads_of-reported : (thread tile : ℕ) (ms : List Member) → threads_of (reported thread tile ms) ≡ threads_of ms
threads_of-reported thread tile [] = refl
threads_of-reported thread tile (m ∷ ms) = rw (same_thread thread tile m, threads_of-reported thread tile ms) refl

threads_of-renewed : (ms : List Member) → threads_of (map renewed ms) ≡ threads_of ms
threads_of-renewed [] = refl
threads_of-renewed (m ∷ ms) = ap (λ ks. m.thread ∷ ks) (threads_of-renewed ms)

pub threads_of-advanced : (s : Standing) (e : Epoch) → threads_of (advanced_by s e).members ≡ threads_of e.members
threads_of-advanced nobody e = refl
threads_of-advanced some_unreached e = refl
threads_of-advanced all_reached e = threads_of-renewed e.members

-- two ascending lists of the same numbers are the same
head_le : (n k : ℕ) (ks : List ℕ) (l : ℕ) (ls : List ℕ) → IsAscendingFrom n (k ∷ ks) → has l (k ∷ ks) ≡ true → k ≤ l
head_le n k ks l ls h e = ⊎_elim
    (λ (lower : ltb l k ≡ true).
    let less : l < k = grind (arith, nat_tests) in
    let none : has l (k ∷ ks) ≡ false = has_none_below l k (k ∷ ks) (omega arith, h.1) less in
    cc)
    (λ (above : ltb l k ≡ false). grind (arith, nat_tests))
    (cases_Bool (ltb l k))

pub ascending_same : (n m : ℕ) (xs ys : List ℕ) → IsAscendingFrom n xs → IsAscendingFrom m ys → ((t : ℕ) → has t xs ≡ has t ys) → xs ≡ ys
ascending_same n m [] [] h k e = refl
ascending_same n m [] (y ∷ ys) h k e =
    let y_in : has y (y ∷ ys) ≡ true = rw (eq-eqb y y refl) refl in
    let wrong : false ≡ true = e y ∙ y_in in
    cc
ascending_same n m (x ∷ xs) [] h k e =
    let x_in : has x (x ∷ xs) ≡ true = rw (eq-eqb x x refl) refl in
    let wrong : false ≡ true = sym (e x) ∙ x_in in
    cc
ascending_same n m (x ∷ xs) (y ∷ ys) h k e =
    let x_in : has x (x ∷ xs) ≡ true = rw (eq-eqb x x refl) refl in
    let y_in : has y (y ∷ ys) ≡ true = rw (eq-eqb y y refl) refl in
    let below : y ≤ x = head_le m y ys x xs k (sym (e x) ∙ x_in) in
    let above : x ≤ y = head_le n x xs y ys h (e y ∙ y_in) in
    let same : x ≡ y = omega (arith, below, above) in
    rw (
      same,
      ascending_same (x + 1) (y + 1) xs ys h.1 k.1 (λ t. ⊎_elim
          (λ (at : t ≡ x). has_none_below t (x + 1) xs h.1 (omega (arith, at)) ∙ sym (has_none_below t (y + 1) ys k.1 (omega (arith, at, same))))
          (λ (past : t ≡ x → ⊥).
          let no : (x == t) ≡ false = ne_eqb x t (λ s. past (sym s)) in
          let nor : (y == t) ≡ false = ne_eqb y t (λ s. past (sym (same ∙ s))) in
          let whole : ((x == t) || has t xs) ≡ ((y == t) || has t ys) = e t in
          rw (no, nor) at whole)
          (cases_eq t x)),
    ) refl

-- the numbers of a range that pass a test
pub ascending_range : (p : ℕ → Bool) (a n : ℕ) → IsAscendingFrom a (filter p (range_with_len a n))
ascending_range p a zero = tt
ascending_range p a (suc n) =
    let rest : IsAscendingFrom (a + 1) (filter p (range_with_len (a + 1) n)) = ascending_range p (a + 1) n in
    ⊎_elim
    (λ (kept : p a ≡ true). rw kept (omega arith, rest))
    (λ (gone : p a ≡ false). rw gone (from_lower a (a + 1) (filter p (range_with_len (a + 1) n)) (omega arith) rest))
    (cases_Bool (p a))

pub has_range : (p : ℕ → Bool) (a n k t : ℕ) → k < n → a + k ≡ t → has t (filter p (range_with_len a n)) ≡ p t
has_range p a zero k t less e = absurd (omega (arith, less))
has_range p a (suc n) zero t less e =
    let at : t ≡ a = omega (arith, e) in
    let here : (a == t) ≡ true = eq-eqb a t (sym at) in
    let rest : has t (filter p (range_with_len (a + 1) n)) ≡ false = has_none_below t (a + 1) (filter p (range_with_len (a + 1) n)) (ascending_range p (a + 1) n) (omega (arith, e)) in
    ⊎_elim
    (λ (kept : p a ≡ true). rw (kept, here, at, kept) refl)
    (λ (gone : p a ≡ false). rw (gone, rest) (sym (ap p at ∙ gone)))
    (cases_Bool (p a))
has_range p a (suc n) (suc k) t less e =
    let past : (a == t) ≡ false = ne_eqb a t (λ s. omega (arith, s, e)) in
    let rest : has t (filter p (range_with_len (a + 1) n)) ≡ p t = has_range p (a + 1) n k t (omega (arith, less)) (omega (arith, e)) in
    ⊎_elim
    (λ (kept : p a ≡ true). rw (kept, past) rest)
    (λ (gone : p a ≡ false). rw gone rest)
    (cases_Bool (p a))

pub has_range_past : (p : ℕ → Bool) (a n t : ℕ) → a + n ≤ t → has t (filter p (range_with_len a n)) ≡ false
has_range_past p a zero t less = refl
has_range_past p a (suc n) t less =
    let past : (a == t) ≡ false = ne_eqb a t (λ s. omega (arith, s, less)) in
    let rest : has t (filter p (range_with_len (a + 1) n)) ≡ false = has_range_past p (a + 1) n t (omega (arith, less)) in
    ⊎_elim
    (λ (kept : p a ≡ true). rw (kept, past) rest)
    (λ (gone : p a ≡ false). rw gone rest)
    (cases_Bool (p a))
