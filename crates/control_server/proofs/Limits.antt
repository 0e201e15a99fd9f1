-- The limits of the next epoch go out in the order of its members, and so of the active threads.
use Rattle.std.proofs.Common.{◌≡◌, ℕ, ◌+◌, ◌<◌, ◌==◌, true, false, List, [], ◌∷◌, length, find, Option, Some, None, is_some, suc, refl, ap, sym, ◌∙◌, ⊎_elim, arith}
use Rattle.std.specs.List.{filter_map, list_all}
use Rattle.std.proofs.lemmas.Bool.{cases_Bool, eq-eqb, ne_eqb, and_parts}
use Rattle.clock_policy.specs.declared.members.Member.{Member}
use Rattle.clock_policy.specs.Members.{all_reached, some_unreached, standing, has_reached}
use Rattle.clock_policy.specs.Epoch.{Epoch, limit_of, next_epoch, limit_sent}
use Rattle.clock_policy.proofs.Ascending.{threads_of, IsAscendingFrom}
use Rattle.control_server.specs.Laws.{limit_for, LimitsGoOutInOrder}
use Rattle.control_server.proofs.Members.{members_active}

-- among members, each of these is the first one with its thread
AreFound : List Member → List Member → Type 0
AreFound all [] = Unit {0}
AreFound all (m ∷ ms) = (find (λ x. x.thread == m.thread) all ≡ Some m) × AreFound all ms

-- so they are behind one of a lower thread
found_behind : (n : ℕ) (first : Member) (all ms : List Member) → first.thread < n → IsAscendingFrom n (threads_of ms) → AreFound all ms → AreFound (first ∷ all) ms
unfolding AreFound
found_behind n first all [] less h found = tt
found_behind n first all (m ∷ ms) less h found =
    let past : (first.thread == m.thread) ≡ false = ne_eqb first.thread m.thread (λ e. omega (arith, e, less, h.0)) in
    (rw past found.0, found_behind (m.thread + 1) first all ms (omega (arith, less, h.0)) h.1 found.1)

all_found : (n : ℕ) (ms : List Member) → IsAscendingFrom n (threads_of ms) → AreFound ms ms
unfolding AreFound
all_found n [] h = tt
all_found n (m ∷ ms) h =
    let here : (m.thread == m.thread) ≡ true = eq-eqb m.thread m.thread refl in
    (rw here refl, found_behind (m.thread + 1) m ms ms (omega arith) h.1 (all_found (m.thread + 1) ms h.1))

by_thread : (e : Epoch) (ms : List Member) → AreFound e.members ms → filter_map (limit_sent (limit_of (next_epoch e))) ms ≡ filter_map (limit_for e) (threads_of ms)
unfolding AreFound
by_thread e [] found = refl
by_thread e (m ∷ ms) found =
    let same : limit_for e m.thread ≡ limit_sent (limit_of (next_epoch e)) m = rw found.0 refl in
    rw (same, by_thread e ms found.1) refl

-- one for each member where all have reached
one_each : (limit : ℕ) (ms : List Member) → list_all has_reached ms ≡ true → length (filter_map (limit_sent limit) ms) ≡ length ms
one_each limit [] e = refl
one_each limit (m ∷ ms) e =
    let parts = and_parts (has_reached m) (list_all has_reached ms) e in
    by_report m.reached parts.0 (one_each limit ms parts.1) where
      by_report : (o : Option ℕ) → is_some o ≡ true → length (filter_map (limit_sent limit) ms) ≡ length ms → length (filter_map (limit_sent limit) (record m { reached = o } ∷ ms)) ≡ length (m ∷ ms)
      by_report None e rest = cc
      by_report (Some tile) e rest = ap suc rest

reached_all : (ms : List Member) → standing ms ≡ all_reached → list_all has_reached ms ≡ true
reached_all [] e = refl
reached_all (m ∷ ms) e = ⊎_elim
    (λ (yes : list_all has_reached (m ∷ ms) ≡ true). yes)
    (λ (never : list_all has_reached (m ∷ ms) ≡ false). let wrong : some_unreached ≡ all_reached = rw never at e in cc)
    (cases_Bool (list_all has_reached (m ∷ ms)))

length_threads : (ms : List Member) → length (threads_of ms) ≡ length ms
length_threads [] = refl
length_threads (m ∷ ms) = ap suc (length_threads ms)

pub limits_go_out_in_order : LimitsGoOutInOrder
limits_go_out_in_order w c h = record {
  order = by_thread c.epochs c.epochs.members (all_found 0 c.epochs.members (members_active c.epochs.members c.control h.members).ascend) ∙ ap (filter_map (limit_for c.epochs)) h.members;
  each = λ all. one_each (limit_of (next_epoch c.epochs)) c.epochs.members (reached_all c.epochs.members all) ∙ sym (length_threads c.epochs.members) ∙ ap length h.members;
}
