-- The active threads as a list: where a thread is put, and what they come to together.
use Rattle.std.proofs.Common.{◌≡◌, ℕ, ◌+◌, ◌≤◌, ◌&&◌, ◌==◌, Bool, true, false, cond, not, List, [], ◌∷◌, length, insert, eqb, leb, ltb, slice_get, Option, Some, None, unwrap_or, suc, if◌then◌else◌, refl, sym, ◌∙◌, ⊎_elim, arith}
use Rattle.std.proofs.lemmas.Bool.{cases_Bool, cases_eq, eq-eqb}
use Rattle.std.proofs.lemmas.Bool.Decides.{nat_tests}
use Rattle.std.specs.List.{list_all}
use Rattle.clock_policy.specs.declared.members.Member.{Member}
use Rattle.clock_policy.specs.Members.{unreached, with_member, standing, has_reached}
use Rattle.clock_policy.specs.Epoch.{is_raised}
use Rattle.clock_policy.specs.Inner.{member_place, is_at}

-- the epoch is raised where somebody is active and all have reached
is_raised-cond : (b : Bool) (ms : List Member) (m : Member) → list_all has_reached (m ∷ ms) ≡ b → is_raised (standing (m ∷ ms)) ≡ b
is_raised-cond true ms m e = rw e refl
is_raised-cond false ms m e = rw e refl

pub is_raised_standing : (ms : List Member) → is_raised (standing ms) ≡ (not (length ms == 0) && list_all has_reached ms)
is_raised_standing [] = refl
is_raised_standing (m ∷ ms) =
    let some : eqb (suc (length ms)) 0 ≡ false = grind (arith, nat_tests) in
    rw some (is_raised-cond (list_all has_reached (m ∷ ms)) ms m refl)

-- what `position` gives, or else the length
pub placed : (r : Option ℕ) (p n : ℕ) → r ≡ cond (ltb p n) (Some p) None → p ≤ n → unwrap_or r n ≡ p
placed r p n e h = ⊎_elim
    (λ (within : ltb p n ≡ true). rw (e, within) refl)
    (λ (past : ltb p n ≡ false). let all : n ≡ p = grind (arith, nat_tests) in rw (e, past) all)
    (cases_Bool (ltb p n))

-- a thread is there already, or is put at its place
put : ℕ → List Member → ℕ → List Member
put thread ms place = if is_at thread (slice_get ms place) then ms else insert ms place (unreached thread)

cond-cons : (b : Bool) (m : Member) (xs ys : List Member) → m ∷ (if b then xs else ys) ≡ (if b then m ∷ xs else m ∷ ys)
cond-cons true m xs ys = refl
cond-cons false m xs ys = refl

put_here : (thread : ℕ) (m : Member) (ms : List Member) → leb thread m.thread ≡ true → with_member thread (m ∷ ms) ≡ put thread (m ∷ ms) 0
unfolding put
put_here thread m ms here = ⊎_elim
    (λ (same : thread ≡ m.thread). rw (eq-eqb thread m.thread same, eq-eqb m.thread thread (sym same)) refl)
    (λ (apart : thread ≡ m.thread → ⊥).
    let one : eqb thread m.thread ≡ false = grind (arith, nat_tests) in
    let other : eqb m.thread thread ≡ false = grind (arith, nat_tests) in
    let lower : ltb thread m.thread ≡ true = grind (arith, nat_tests) in
    rw (one, other, lower) refl)
    (cases_eq thread m.thread)

put_past : (thread p : ℕ) (m : Member) (ms : List Member) → leb thread m.thread ≡ false → with_member thread ms ≡ put thread ms p → with_member thread (m ∷ ms) ≡ put thread (m ∷ ms) (suc p)
unfolding put
put_past thread p m ms past h =
    let one : eqb thread m.thread ≡ false = grind (arith, nat_tests) in
    let lower : ltb thread m.thread ≡ false = grind (arith, nat_tests) in
    rw (one, lower, h) (cond-cons (is_at thread (slice_get ms p)) m ms (insert ms p (unreached thread)))

with_member-put : (thread : ℕ) (ms : List Member) → with_member thread ms ≡ put thread ms (member_place thread ms)
unfolding put
with_member-put thread [] = refl
with_member-put thread (m ∷ ms) = ⊎_elim
    (λ (here : leb thread m.thread ≡ true). rw here (put_here thread m ms here))
    (λ (past : leb thread m.thread ≡ false).
    let next : 1 + member_place thread ms ≡ suc (member_place thread ms) = omega arith in
    rw (past, next) (put_past thread (member_place thread ms) m ms past (with_member-put thread ms)))
    (cases_Bool (leb thread m.thread))

pub with_member_there : (thread place : ℕ) (ms : List Member) → place ≡ member_place thread ms → is_at thread (slice_get ms place) ≡ true → with_member thread ms ≡ ms
unfolding put
with_member_there thread place ms e there = with_member-put thread ms ∙ rw (sym e, there) refl

pub with_member_new : (thread place : ℕ) (ms : List Member) → place ≡ member_place thread ms → is_at thread (slice_get ms place) ≡ false → with_member thread ms ≡ insert ms place (unreached thread)
unfolding put
with_member_new thread place ms e new = with_member-put thread ms ∙ rw (sym e, new) refl
