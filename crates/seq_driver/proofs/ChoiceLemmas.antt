-- Which events nodes can choose, over any machine.
use Rattle.std.proofs.Common.{◌≡◌, ℕ, zero, suc, ◌+◌, ◌%◌, ◌<◌, ◌≤◌, Bool, true, false, List, [], ◌∷◌, ◌++◌, length, map, refl, sym, ap, subst, ◌∙◌, arith, inl, inr}
use Rattle.std.specs.Prelude.{Option, Some, None, cond, ◌&&◌, ◌||◌, not, nat_lt, filter, slice_get}
use Rattle.std.specs.List.{range_with_len}
use Rattle.std.proofs.lemmas.Bool.{cases_Bool}
use Rattle.std.proofs.lemmas.Bool.Decides.{nat_tests, eqb_tells}
use Rattle.std.proofs.Math.ListN.{get_or}
use Rattle.std.proofs.lemmas.Option.{same_Some, none-some, slice_get-get_or}
use Rattle.event_journal.specs.declared.events.Event.{Event}
use Rattle.event_journal.specs.declared.events.Event.TheVariants.{Step, Deliver}
use Rattle.event_journal.specs.Rules.{Rules}
use Rattle.event_journal.specs.State.{State, is_empty}
use Rattle.event_journal.specs.Run.{can_happen}
use Rattle.event_journal.specs.Choice.{senders_to, can_act, acting_nodes, own_step, choices}
use Rattle.seq_driver.specs.Picked.{picked, choice_of}

-- a number of a range that passes a test
pub record IsKept (p : ℕ → Bool) (a n k : ℕ) : Type 0 where
  pub passes : p k ≡ true
  pub low : a ≤ k
  pub high : k < a + n

kept_first : (p : ℕ → Bool) (a n i k : ℕ) → ((j : ℕ) → slice_get (filter p (range_with_len (a + 1) n)) j ≡ Some k → IsKept p (a + 1) n k) → p a ≡ true
    → slice_get (a ∷ filter p (range_with_len (a + 1) n)) i ≡ Some k → IsKept p a (suc n) k
kept_first p a n zero k later passes at =
    let here : a ≡ k = same_Some a k at in
    record { passes = subst (λ m. p m ≡ true) here passes; low = omega (arith, here); high = omega (arith, here) }
kept_first p a n (suc j) k later passes at =
    let rest = later j at in
    record { passes = rest.passes; low = omega (arith, rest.low); high = omega (arith, rest.high) }

pub kept_at : (p : ℕ → Bool) (a n i k : ℕ) → slice_get (filter p (range_with_len a n)) i ≡ Some k → IsKept p a n k
kept_at p a zero i k at = cc (at)
kept_at p a (suc n) i k at = elim (cases_Bool (p a)) [
  | inl passes ↦ kept_first p a n i k (λ j e. kept_at p (a + 1) n j k e) passes (subst (λ b. slice_get (cond b (a ∷ filter p (range_with_len (a + 1) n)) (filter p (range_with_len (a + 1) n))) i ≡ Some k) passes at)
  | inr fails ↦
      let rest = kept_at p (a + 1) n i k (subst (λ b. slice_get (cond b (a ∷ filter p (range_with_len (a + 1) n)) (filter p (range_with_len (a + 1) n))) i ≡ Some k) fails at) in
      record { passes = rest.passes; low = omega (arith, rest.low); high = omega (arith, rest.high) }
]

-- where no number of a range passes, each fails
pub none_kept : (p : ℕ → Bool) (a n : ℕ) → filter p (range_with_len a n) ≡ [] → (k : ℕ) → a ≤ k → k < a + n → p k ≡ false
none_kept p a zero none k low high = absurd (omega (arith, low, high))
none_kept p a (suc n) none k low high = elim (cases_Bool (p a)) [
  | inl passes ↦ cc (subst (λ b. cond b (a ∷ filter p (range_with_len (a + 1) n)) (filter p (range_with_len (a + 1) n)) ≡ []) passes none)
  | inr fails ↦
      let rest : filter p (range_with_len (a + 1) n) ≡ [] = subst (λ b. cond b (a ∷ filter p (range_with_len (a + 1) n)) (filter p (range_with_len (a + 1) n)) ≡ []) fails none in
      elim (eqb_tells k a) [
        | inl same ↦ ap p same.1 ∙ fails
        | inr other ↦ none_kept p (a + 1) n rest k (omega (arith, low, other.1)) (omega (arith, high))
      ]
]

-- an empty list is one without members
pub empty_is : {A : Type 0} (xs : List A) → is_empty xs ≡ true → xs ≡ []
empty_is [] e = refl
empty_is (x ∷ xs) e = cc (e)

-- a word picks a member of each list that isn't empty
pub none_picked : {A : Type 0} (xs : List A) (word : ℕ) → picked xs word ≡ None → xs ≡ []
none_picked [] word none = refl
none_picked (x ∷ xs) word none =
    let low : word % length (x ∷ xs) < length (x ∷ xs) = omega arith in
    absurd (none-some (get_or (x ∷ xs) (word % length (x ∷ xs)) x) (sym none ∙ slice_get-get_or (x ∷ xs) (word % length (x ∷ xs)) x low))

not_false : (b : Bool) → not b ≡ false → b ≡ true
not_false true e = refl
not_false false e = cc (e)

and_false : (b : Bool) → (b && false) ≡ false
and_false true = refl
and_false false = refl

lt_true : (a b : ℕ) → a < b → nat_lt a b ≡ true
lt_true a b h = grind (arith, nat_tests)

-- a node that can act has a choice
no_choice : (node : ℕ) (steps : Bool) (senders : List ℕ) → (steps || not (is_empty senders)) ≡ true → own_step steps node ++ map (λ from. Deliver from node) senders ≡ [] → ⊥
no_choice node true senders acts none = cc (none)
no_choice node false [] acts none = cc (acts)
no_choice node false (from ∷ senders) acts none = cc (none)

module _ {N M : Type 0} (r : Rules N M) (count : ℕ) (s : State N M) where
  -- where no node can act, no event can happen
  idle_step : (k : ℕ) → k < count → can_act r count s k ≡ false → r.can_step (s.node k) ≡ false
  idle_step k low idle = elim (cases_Bool (r.can_step (s.node k))) [
    | inl steps ↦ cc (subst (λ b. (b || not (is_empty (senders_to count s k))) ≡ false) steps idle)
    | inr still ↦ still
  ]

  idle_queue : (from k : ℕ) → from < count → k < count → can_act r count s k ≡ false → not (is_empty (s.queue from k)) ≡ false
  idle_queue from k sender low idle =
      let none : not (is_empty (senders_to count s k)) ≡ false =
      subst (λ b. (b || not (is_empty (senders_to count s k))) ≡ false) (idle_step k low idle) idle in
      none_kept (λ i. not (is_empty (s.queue i k))) 0 count (empty_is (senders_to count s k) (not_false (is_empty (senders_to count s k)) none)) from (omega arith) (omega (arith, sender))

  idle_at : acting_nodes r count s ≡ [] → (k : ℕ) → k < count → can_act r count s k ≡ false
  idle_at none k low = none_kept (can_act r count s) 0 count none k (omega arith) (omega (arith, low))

  pub nobody_acts : acting_nodes r count s ≡ [] → (event : Event) → can_happen r count s event ≡ false
  nobody_acts none (Step k) = elim (cases_Bool (nat_lt k count)) [
    | inl inside ↦ rw (inside, idle_step k (grind (arith, nat_tests)) (idle_at none k (grind (arith, nat_tests)))) (and_false (nat_lt (s.made k) r.room))
    | inr outside ↦ rw (outside) refl
  ]
  nobody_acts none (Deliver from k) = elim (cases_Bool (nat_lt from count)) [
    | inl sender ↦ elim (cases_Bool (nat_lt k count)) [
      | inl inside ↦ rw (sender, inside, idle_queue from k (grind (arith, nat_tests)) (grind (arith, nat_tests)) (idle_at none k (grind (arith, nat_tests)))) (and_false (nat_lt (s.made k) r.room))
      | inr outside ↦ rw (sender, outside) refl
    ]
    | inr stranger ↦ rw (stranger) refl
  ]

  -- a delivery from one of the senders
  delivers : (node : ℕ) (senders : List ℕ) (i : ℕ) (event : Event) → slice_get (map (λ from. Deliver from node) senders) i ≡ Some event
      → (from : ℕ) × (slice_get senders i ≡ Some from) × (event ≡ Deliver from node)
  delivers node [] i event at = cc (at)
  delivers node (from ∷ senders) zero event at = (from, refl, sym (same_Some (Deliver from node) event at))
  delivers node (from ∷ senders) (suc i) event at = delivers node senders i event at

  sender_can : (node i : ℕ) (event : Event) → node < count → s.made node < r.room
      → slice_get (map (λ from. Deliver from node) (senders_to count s node)) i ≡ Some event → can_happen r count s event ≡ true
  sender_can node i event low room at =
      let one = delivers node (senders_to count s node) i event at in
      let kept = kept_at (λ from. not (is_empty (s.queue from node))) 0 count i one.0 one.1 in
      let sender : nat_lt one.0 count ≡ true = lt_true one.0 count (omega (arith, kept.high)) in
      rw (one.2, sender, lt_true node count low, lt_true (s.made node) r.room room, kept.passes) refl

  -- each choice of a node that has room can happen
  choice_can : (node i : ℕ) (steps : Bool) (event : Event) → r.can_step (s.node node) ≡ steps → node < count → s.made node < r.room
      → slice_get (own_step steps node ++ map (λ from. Deliver from node) (senders_to count s node)) i ≡ Some event → can_happen r count s event ≡ true
  choice_can node i false event is low room at = sender_can node i event low room at
  choice_can node zero true event is low room at =
      rw (sym (same_Some (Step node) event at), lt_true node count low, lt_true (s.made node) r.room room, is) refl
  choice_can node (suc i) true event is low room at = sender_can node i event low room at

  pub drawn_can : (found : Option ℕ) (word : ℕ) (event : Event) → ((node : ℕ) → found ≡ Some node → node < count) → ((node : ℕ) → node < count → s.made node < r.room)
      → choice_of r count s found word ≡ Some event → can_happen r count s event ≡ true
  drawn_can None word event acts room is = absurd (none-some event is)
  drawn_can (Some node) word event acts room is =
      choice_can node (word % length (choices r count s node)) (r.can_step (s.node node)) event refl (acts node refl) (room node (acts node refl)) is

  -- a picked node is one of the machine's, and can act
  pub picked_acts : (word node : ℕ) → picked (acting_nodes r count s) word ≡ Some node → IsKept (can_act r count s) 0 count node
  picked_acts word node is = kept_at (can_act r count s) 0 count (word % length (acting_nodes r count s)) node is

  -- where nothing is picked, nobody can act
  pub none_drawn : (found : Option ℕ) (first word : ℕ) → picked (acting_nodes r count s) first ≡ found → choice_of r count s found word ≡ None → acting_nodes r count s ≡ []
  none_drawn None first word is none = none_picked (acting_nodes r count s) first is
  none_drawn (Some node) first word is none =
      let acts : can_act r count s node ≡ true = (picked_acts first node is).passes in
      absurd (no_choice node (r.can_step (s.node node)) (senders_to count s node) acts (none_picked (choices r count s node) word none))
