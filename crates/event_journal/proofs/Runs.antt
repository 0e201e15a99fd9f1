-- Runs: one after the other, their first events, and what they count.
use Rattle.std.proofs.Common.{◌≡◌, ℕ, ◌+◌, ◌*◌, ◌<◌, ◌≤◌, Bool, true, false, List, [], ◌∷◌, ◌++◌, length, take, drop, refl, sym, ap, ◌∙◌, subst, arith, cond, inl, inr, zero, suc, add-zero, zero-add, suc-mul}
use Rattle.std.specs.Prelude.{◌&&◌, not, nat_lt, ◌==◌, IsTrue}
use Rattle.std.proofs.lemmas.Bool.{and_parts, ltb-true, cases_Bool, eqb-true, eqb-false, ne_eqb, false≢true}
use Rattle.std.proofs.lemmas.List.{take-append-drop}
use Rattle.std.proofs.lemmas.List.Sums.{sum_by-cons}
use Rattle.event_journal.specs.declared.events.Event.{Event}
use Rattle.event_journal.specs.declared.events.Event.TheVariants.{Step, Deliver}
use Rattle.event_journal.specs.Event.{acting_node, events_of}
use Rattle.event_journal.specs.Rules.{Rules}
use Rattle.event_journal.specs.State.{State, is_empty, put, start}
use Rattle.event_journal.specs.Run.{delivered, happens, can_happen, IsRun, after}
use Rattle.event_journal.specs.Laws.{IsWithinRoom}

-- One after the other

pub after-append : {N M : Type 0} (r : Rules N M) (s : State N M) (a b : List Event) → after r s (a ++ b) ≡ after r (after r s a) b
after-append r s [] b = refl
after-append r s (e ∷ a) b = after-append r (happens r s e) a b

pub run-append : {N M : Type 0} (r : Rules N M) (count : ℕ) (s : State N M) (a b : List Event) → IsRun r count s a → IsRun r count (after r s a) b → IsRun r count s (a ++ b)
run-append r count s [] b first second = second
run-append r count s (e ∷ a) b first second = (first.0, run-append r count (happens r s e) a b first.1 second)

pub run-split : {N M : Type 0} (r : Rules N M) (count : ℕ) (s : State N M) (a b : List Event) → IsRun r count s (a ++ b) → IsRun r count s a × IsRun r count (after r s a) b
run-split r count s [] b run = (tt, run)
run-split r count s (e ∷ a) b run =
    let rest = run-split r count (happens r s e) a b run.1 in ((run.0, rest.0), rest.1)

pub run-take : {N M : Type 0} (r : Rules N M) (count : ℕ) (s : State N M) (events : List Event) (k : ℕ) → IsRun r count s events → IsRun r count s (take k events)
run-take r count s events k run =
    (run-split r count s (take k events) (drop k events) (subst (IsRun r count s) (sym (take-append-drop k events)) run)).0

-- An event that is enabled

-- what it is that a delivery is enabled
pub record CanDeliver {N M : Type 0} (r : Rules N M) (count : ℕ) (s : State N M) (from node : ℕ) : Type 0 where
  pub sender : from < count
  pub receiver : node < count
  pub room : s.made node < r.room
  pub waiting : not (is_empty (s.queue from node)) ≡ true

pub can_deliver : {N M : Type 0} (r : Rules N M) (count : ℕ) (s : State N M) (from node : ℕ) → IsTrue (can_happen r count s (Deliver from node)) → CanDeliver r count s from node
can_deliver r count s from node can =
    let waits = not (is_empty (s.queue from node)) in
    let has_room = nat_lt (s.made node) r.room in
    let a = and_parts (nat_lt from count) (nat_lt node count && (has_room && waits)) can in
    let b = and_parts (nat_lt node count) (has_room && waits) a.1 in
    let c = and_parts has_room waits b.1 in
    record { sender = ltb-true from count a.0; receiver = ltb-true node count b.0; room = ltb-true (s.made node) r.room c.0; waiting = c.1 }

-- what it is that a step is enabled
pub record CanStep {N M : Type 0} (r : Rules N M) (count : ℕ) (s : State N M) (node : ℕ) : Type 0 where
  pub stepper : node < count
  pub room : s.made node < r.room
  pub able : r.can_step (s.node node) ≡ true

pub can_step : {N M : Type 0} (r : Rules N M) (count : ℕ) (s : State N M) (node : ℕ) → IsTrue (can_happen r count s (Step node)) → CanStep r count s node
can_step r count s node can =
    let has_room = nat_lt (s.made node) r.room in
    let able = r.can_step (s.node node) in
    let a = and_parts (nat_lt node count) (has_room && able) can in
    let b = and_parts has_room able a.1 in
    record { stepper = ltb-true node count a.0; room = ltb-true (s.made node) r.room b.0; able = b.1 }

-- the node that acts is one of the machine's
pub acts_within : {N M : Type 0} (r : Rules N M) (count : ℕ) (s : State N M) (e : Event) → IsTrue (can_happen r count s e) → acting_node e < count
acts_within r count s (Step node) can = (can_step r count s node can).stepper
acts_within r count s (Deliver from node) can = (can_deliver r count s from node can).receiver

-- and it has room for the event
pub acts_with_room : {N M : Type 0} (r : Rules N M) (count : ℕ) (s : State N M) (e : Event) → IsTrue (can_happen r count s e) → s.made (acting_node e) < r.room
acts_with_room r count s (Step node) can = (can_step r count s node can).room
acts_with_room r count s (Deliver from node) can = (can_deliver r count s from node can).room

-- a delivery of a message that waits is counted
delivered-made : {N M : Type 0} (r : Rules N M) (s : State N M) (from node : ℕ) (messages : List M) → not (is_empty messages) ≡ true → (delivered r s from node messages).made ≡ put s.made node (s.made node + 1)
delivered-made r s from node [] some = absurd (false≢true some)
delivered-made r s from node (message ∷ messages) some = refl

-- an event that is enabled is counted for its node, and for no other
pub happens-made : {N M : Type 0} (r : Rules N M) (count : ℕ) (s : State N M) (e : Event) → IsTrue (can_happen r count s e) → (happens r s e).made ≡ put s.made (acting_node e) (s.made (acting_node e) + 1)
happens-made r count s (Step node) can = refl
happens-made r count s (Deliver from node) can =
    delivered-made r s from node (s.queue from node) (can_deliver r count s from node can).waiting

-- What a run counts

put-here : (f : ℕ → ℕ) (k x i : ℕ) → (i == k) ≡ true → put f k x i ≡ x
put-here f k x i same = ap (λ b. cond b x (f i)) same

put-there : (f : ℕ → ℕ) (k x i : ℕ) → (i == k) ≡ false → put f k x i ≡ f i
put-there f k x i other = ap (λ b. cond b x (f i)) other

-- one more at one number
more : (f : ℕ → ℕ) (k i : ℕ) → put f k (f k + 1) i ≡ f i + cond (i == k) 1 0
more f k i = elim (cases_Bool (i == k)) [
  | inl same ↦ rw (same) (let here : i ≡ k = eqb-true i k same in omega (arith, ap f here))
  | inr other ↦ rw (other) (sym (add-zero (f i)))
]

pub made-after : {N M : Type 0} (r : Rules N M) (count : ℕ) (s : State N M) (events : List Event) (node : ℕ) → IsRun r count s events → (after r s events).made node ≡ s.made node + events_of node events
made-after r count s [] node run = sym (add-zero (s.made node))
made-after r count s (e ∷ events) node run =
    let later = made-after r count (happens r s e) events node run.1 in
    let now = ap (λ f. f node) (happens-made r count s e run.0) ∙ more s.made (acting_node e) node in
    omega (arith, later, now, sum_by-cons (λ event. cond (node == acting_node event) 1 0) e events)

-- no node comes to more than it may
made-room : {N M : Type 0} (r : Rules N M) (count : ℕ) (s : State N M) (events : List Event) → ((node : ℕ) → s.made node ≤ r.room) → IsRun r count s events → (node : ℕ) → (after r s events).made node ≤ r.room
made-room r count s [] before run node = before node
made-room r count s (e ∷ events) before run node =
    let one_more : (k : ℕ) → (happens r s e).made k ≤ r.room = λ k.
    elim (cases_Bool (k == acting_node e)) [
      | inl same ↦ (let step = ap (λ f. f k) (happens-made r count s e run.0) ∙ put-here s.made (acting_node e) (s.made (acting_node e) + 1) k same in
          omega (arith, acts_with_room r count s e run.0))
      | inr other ↦ (let step = ap (λ f. f k) (happens-made r count s e run.0) ∙ put-there s.made (acting_node e) (s.made (acting_node e) + 1) k other in
          omega (arith, before k))
    ] in
    made-room r count (happens r s e) events one_more run.1 node

abbrev one_if : Bool → ℕ
one_if b = cond b 1 0

-- a node that the machine doesn't have makes no event
none_beyond : {N M : Type 0} (r : Rules N M) (count : ℕ) (s : State N M) (events : List Event) (node : ℕ) → count ≤ node → IsRun r count s events → events_of node events ≡ 0
none_beyond r count s [] node beyond run = refl
none_beyond r count s (e ∷ events) node beyond run =
    let rest = none_beyond r count (happens r s e) events node beyond run.1 in
    let other = ne_eqb node (acting_node e) (λ same. absurd (omega (arith, acts_within r count s e run.0))) in
    let mine : one_if (node == acting_node e) ≡ 0 = ap one_if other in
    omega (arith, rest, mine, sum_by-cons (λ event. cond (node == acting_node event) 1 0) e events)

-- How many events there are in all

-- the sum of a function over the numbers below one
abbrev total : (ℕ → ℕ) → ℕ → ℕ
total f zero = 0
total f (suc n) = total f n + f n

total-put_beyond : (f : ℕ → ℕ) (k x n : ℕ) → n ≤ k → total (put f k x) n ≡ total f n
total-put_beyond f k x zero beyond = refl
total-put_beyond f k x (suc n) beyond =
    let rest = total-put_beyond f k x n (omega arith) in
    let here = put-there f k x n (ne_eqb n k (λ same. absurd (omega arith))) in
    omega (arith, rest, here)

total-put : (f : ℕ → ℕ) (k n : ℕ) → k < n → total (put f k (f k + 1)) n ≡ total f n + 1
total-put f k zero below = absurd (omega arith)
total-put f k (suc n) below = elim (cases_Bool (n == k)) [
  | inl same ↦ (let at : n ≡ k = eqb-true n k same in
      let here = put-here f k (f k + 1) n same in
      let rest = total-put_beyond f k (f k + 1) n (omega arith) in
      omega (arith, rest, here, ap f at))
  | inr other ↦ (let apart = eqb-false n k other in
      let here = put-there f k (f k + 1) n other in
      let rest = total-put f k n (omega (arith, apart)) in
      omega (arith, rest, here))
]

total-le : (f : ℕ → ℕ) (most n : ℕ) → ((k : ℕ) → f k ≤ most) → total f n ≤ n * most
total-le f most zero each = omega arith
total-le f most (suc n) each = omega (arith, total-le f most n each, each n, suc-mul n most)

total-zero : (n : ℕ) → total (λ k. 0) n ≡ 0
total-zero zero = refl
total-zero (suc n) = omega (arith, total-zero n)

total-made : {N M : Type 0} (r : Rules N M) (count : ℕ) (s : State N M) (events : List Event) → IsRun r count s events → total (after r s events).made count ≡ total s.made count + length events
total-made r count s [] run = sym (add-zero (total s.made count))
total-made r count s (e ∷ events) run =
    let later = total-made r count (happens r s e) events run.1 in
    let now = ap (λ f. total f count) (happens-made r count s e run.0) ∙ total-put s.made (acting_node e) count (acts_within r count s e run.0) in
    omega (arith, later, now)

-- Runs from a start

pub counts : {N M : Type 0} (r : Rules N M) (count : ℕ) (first : ℕ → N) (events : List Event) (node : ℕ) → IsRun r count (start first) events → (after r (start first) events).made node ≡ events_of node events
counts r count first events node run = made-after r count (start first) events node run ∙ zero-add (events_of node events)

pub stays_within : {N M : Type 0} (r : Rules N M) (count : ℕ) (first : ℕ → N) (events : List Event) → IsRun r count (start first) events → IsWithinRoom count r.room events
stays_within r count first events run =
    let most = made-room r count (start first) events (λ node. omega arith) run in
    record {
      node = λ node. omega (arith, most node, counts r count first events node run);
      nobody_else = λ node beyond. none_beyond r count (start first) events node beyond run;
      all = omega (arith, total-le _ _ count most, total-made r count (start first) events run, total-zero count);
    }
