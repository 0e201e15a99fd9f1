-- The members of the epoch are the active threads, in ascending order, whatever is served.
use Rattle.std.proofs.Common.{◌≡◌, ℕ, ◌<◌, ◌≤◌, ◌==◌, Bool, true, false, List, [], ◌∷◌, length, Option, Some, None, refl, ap, sym, ◌∙◌, subst, ⊎_elim, arith}
use Rattle.std.proofs.lemmas.Bool.{cases_Bool, cases_eq, cases_lt, eqb-true, eqb-false}
use Rattle.serving.specs.ControlData.{ControlData}
use Rattle.serving.specs.Serving.{Served, Woken, Born}
use Rattle.clock_policy.specs.declared.members.Member.{Member}
use Rattle.clock_policy.specs.Members.{standing}
use Rattle.clock_policy.specs.Epoch.{Epoch}
use Rattle.clock_policy.proofs.Ascending.{threads_of, IsAscendingFrom, has, ascending_with, ascending_filter, ascending_same, ascending_range, has_with_same, has_with_other, has_without_same, has_without_other, has_range, has_range_past, threads_of-advanced}
use Rattle.control_server.specs.Control.{is_active, active_threads}
use Rattle.control_server.specs.Serve.{joined_by, join_all, join_born, leave_unless, epochs_served, epochs_closed}
use Rattle.control_server.proofs.Active.{active_parts, live_lt}
use Rattle.control_server.proofs.Moves.{Moves, is_woken, is_born}

-- members ascend, and are the active threads
pub record AreActive (members : List Member) (c : ControlData) : Type 0 where
  pub ascend : IsAscendingFrom 0 (threads_of members)
  pub active : (t : ℕ) → has t (threads_of members) ≡ is_active c t

-- a number that no thread has isn't active
none_past : (c : ControlData) (t : ℕ) → length c.fates ≤ t → is_active c t ≡ false
none_past c t past = ⊎_elim
    (λ (active : is_active c t ≡ true). absurd (omega (arith, past, live_lt c.fates t (active_parts c t active).live)))
    (λ (idle : is_active c t ≡ false). idle)
    (cases_Bool (is_active c t))

has_active : (c : ControlData) (t : ℕ) → has t (active_threads c) ≡ is_active c t
has_active c t = ⊎_elim
    (λ (active : is_active c t ≡ true). has_range (is_active c) 0 (length c.fates) t t (live_lt c.fates t (active_parts c t active).live) (omega arith))
    (λ (idle : is_active c t ≡ false). ⊎_elim
    (λ (within : t < length c.fates). has_range (is_active c) 0 (length c.fates) t t within (omega arith))
    (λ (past : length c.fates ≤ t). has_range_past (is_active c) 0 (length c.fates) t (omega (arith, past)) ∙ sym (none_past c t past))
    (cases_lt t (length c.fates)))
    (cases_Bool (is_active c t))

pub members_listed : (members : List Member) (c : ControlData) → AreActive members c → threads_of members ≡ active_threads c
members_listed members c h =
    ascending_same 0 0 (threads_of members) (active_threads c) h.ascend (ascending_range (is_active c) 0 (length c.fates)) (λ t. h.active t ∙ sym (has_active c t))

pub members_active : (members : List Member) (c : ControlData) → threads_of members ≡ active_threads c → AreActive members c
members_active members c e = record {
  ascend = subst (IsAscendingFrom 0) (sym e) (ascending_range (is_active c) 0 (length c.fates));
  active = λ t. ap (has t) e ∙ has_active c t;
}

-- threads join, one leaves
joined_ascend : (woken : List Woken) (e : Epoch) → IsAscendingFrom 0 (threads_of e.members) → IsAscendingFrom 0 (threads_of (join_all woken e).members)
joined_ascend [] e h = h
joined_ascend (w ∷ woken) e h = joined_ascend woken (joined_by w.thread e) (ascending_with 0 w.thread e.members (omega arith) h)

born_ascend : (born : Option Born) (e : Epoch) → IsAscendingFrom 0 (threads_of e.members) → IsAscendingFrom 0 (threads_of (join_born born e).members)
born_ascend None e h = h
born_ascend (Some b) e h = ascending_with 0 b.thread e.members (omega arith) h

leave_ascend : (stays : Bool) (thread : ℕ) (e : Epoch) → IsAscendingFrom 0 (threads_of e.members) → IsAscendingFrom 0 (threads_of (leave_unless stays thread e).members)
leave_ascend true thread e h = h
leave_ascend false thread e h = ascending_filter _ 0 e.members h

-- one who joins or was a member is one
joined_has : (t thread : ℕ) (e : Epoch) → has t (threads_of e.members) ≡ true → has t (threads_of (joined_by thread e).members) ≡ true
joined_has t thread e h = ⊎_elim
    (λ (own : t ≡ thread). subst (λ n. has n (threads_of (joined_by thread e).members) ≡ true) (sym own) (has_with_same thread e.members))
    (λ (other : t ≡ thread → ⊥). has_with_other t thread e.members other ∙ h)
    (cases_eq t thread)

all_stay : (t : ℕ) (woken : List Woken) (e : Epoch) → has t (threads_of e.members) ≡ true → has t (threads_of (join_all woken e).members) ≡ true
all_stay t [] e h = h
all_stay t (w ∷ woken) e h = all_stay t woken (joined_by w.thread e) (joined_has t w.thread e h)

born_stays : (t : ℕ) (born : Option Born) (e : Epoch) → has t (threads_of e.members) ≡ true → has t (threads_of (join_born born e).members) ≡ true
born_stays t None e h = h
born_stays t (Some b) e h = joined_has t b.thread e h

woken_has : (t : ℕ) (woken : List Woken) (e : Epoch) → is_woken t woken ≡ true → has t (threads_of (join_all woken e).members) ≡ true
woken_has t [] e h = cc
woken_has t (w ∷ woken) e h = ⊎_elim
    (λ (here : (w.thread == t) ≡ true).
    all_stay t woken (joined_by w.thread e) (subst (λ n. has n (threads_of (joined_by w.thread e).members) ≡ true) (eqb-true w.thread t here) (has_with_same w.thread e.members)))
    (λ (past : (w.thread == t) ≡ false). woken_has t woken (joined_by w.thread e) (rw past at h))
    (cases_Bool (w.thread == t))

born_has : (t : ℕ) (born : Option Born) (e : Epoch) → is_born t born ≡ true → has t (threads_of (join_born born e).members) ≡ true
born_has t None e h = cc
born_has t (Some b) e h = subst (λ n. has n (threads_of (joined_by b.thread e).members) ≡ true) (eqb-true b.thread t h) (has_with_same b.thread e.members)

-- and the others are as before
woken_same : (t : ℕ) (woken : List Woken) (e : Epoch) → is_woken t woken ≡ false → has t (threads_of (join_all woken e).members) ≡ has t (threads_of e.members)
woken_same t [] e h = refl
woken_same t (w ∷ woken) e h = ⊎_elim
    (λ (here : (w.thread == t) ≡ true). let wrong : true ≡ false = rw here at h in cc)
    (λ (past : (w.thread == t) ≡ false).
    woken_same t woken (joined_by w.thread e) (rw past at h) ∙ has_with_other t w.thread e.members (λ own. eqb-false w.thread t past (sym own)))
    (cases_Bool (w.thread == t))

born_same : (t : ℕ) (born : Option Born) (e : Epoch) → is_born t born ≡ false → has t (threads_of (join_born born e).members) ≡ has t (threads_of e.members)
born_same t None e h = refl
born_same t (Some b) e h = has_with_other t b.thread e.members (λ own. eqb-false b.thread t h (sym own))

leave_other : (t thread : ℕ) (stays : Bool) (e : Epoch) → (t ≡ thread → ⊥) → has t (threads_of (leave_unless stays thread e).members) ≡ has t (threads_of e.members)
leave_other t thread true e other = refl
leave_other t thread false e other = has_without_other t thread e.members other

leave_own : (thread : ℕ) (stays : Bool) (e : Epoch) → has thread (threads_of e.members) ≡ true → has thread (threads_of (leave_unless stays thread e).members) ≡ stays
leave_own thread true e h = h
leave_own thread false e h = has_without_same thread e.members

-- a request was served
pub served_members : (c : ControlData) (caller : ℕ) (made : Served) (e : Epoch) → AreActive e.members c → is_active c caller ≡ true → Moves c caller made
    → AreActive (epochs_served made.control caller made e).members made.control
served_members c caller made e h active m =
    let all : Epoch = join_all made.woken e in
    let more : Epoch = join_born made.born all in
    let stays : Bool = is_active made.control caller in
    record {
      ascend = leave_ascend stays caller more (born_ascend made.born all (joined_ascend made.woken e h.ascend));
      active = λ t. ⊎_elim
          (λ (own : t ≡ caller). subst (λ n. has n (threads_of (leave_unless stays caller more).members) ≡ is_active made.control n) (sym own)
          (leave_own caller stays more (born_stays caller made.born all (all_stay caller made.woken e (h.active caller ∙ active)))))
          (λ (other : t ≡ caller → ⊥). leave_other t caller stays more other ∙ ⊎_elim
          (λ (wakes : is_woken t made.woken ≡ true). born_stays t made.born all (woken_has t made.woken e wakes) ∙ sym (m.woken t wakes))
          (λ (sleeps : is_woken t made.woken ≡ false). ⊎_elim
          (λ (begins : is_born t made.born ≡ true). born_has t made.born all begins ∙ sym (m.born t begins))
          (λ (unborn : is_born t made.born ≡ false). born_same t made.born all unborn ∙ woken_same t made.woken e sleeps ∙ h.active t ∙ sym (m.others t other sleeps unborn))
          (cases_Bool (is_born t made.born)))
          (cases_Bool (is_woken t made.woken)))
          (cases_eq t caller);
    }

pub closed_threads : (closes : Bool) (e : Epoch) → threads_of (epochs_closed closes e).members ≡ threads_of e.members
closed_threads true e = threads_of-advanced (standing e.members) e
closed_threads false e = refl
