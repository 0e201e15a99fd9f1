-- Who waits and who can act, after one list of messages or one node has changed.
use Rattle.std.proofs.Common.{◌≡◌, ℕ, ◌<◌, Bool, true, false, cond, List, [], ◌∷◌, ◌++◌, length, get_or, set, replicate, refl, sym, ap, ◌∙◌, subst, arith, inl, inr, if◌then◌else◌}
use Rattle.std.specs.Prelude.{not, ◌==◌, ◌||◌, nat_lt, filter}
use Rattle.std.specs.List.{range_with_len}
use Rattle.std.proofs.lemmas.Bool.{cases_lt, cases_Bool, eqb-true, eqb-false, false≢true, not-true}
use Rattle.std.proofs.lemmas.List.{length-set, get_or-set_same, get_or-set_other, get_or-replicate, get_or_past, length-replicate, set_past}
use Rattle.std.proofs.lemmas.List.Elements.{filter_agree}
use Rattle.event_journal.specs.State.{is_empty}
use Rattle.wire_msg.specs.declared.messages.Msg.{Msg}
use Rattle.node_set.specs.NodeSet.{with_node, without}
use Rattle.node_machine.specs.Pending.{Inbox, PendingData, queue_from, senders_in, with_queue_from, inbox_of, can_act_in, acting_in, rest_of}
use Rattle.node_set.proofs.Ranges.{filter_with, filter_without}

-- a test that no number passes
pub nothing : (p : ℕ → Bool) (xs : List ℕ) → ((i : ℕ) → p i ≡ false) → filter p xs ≡ []
nothing p [] none = refl
nothing p (x ∷ xs) none = rw (none x) (nothing p xs none)

-- the same number passes or not, as a flag says
pub filter_put : (p q : ℕ → Bool) (k n : ℕ) (b : Bool) → ((i : ℕ) → (i == k) ≡ false → q i ≡ p i) → b ≡ q k → (q k ≡ true → k < n) → (if b then with_node k (filter p (range_with_len 0 n)) else without k (filter p (range_with_len 0 n))) ≡ filter q (range_with_len 0 n)
filter_put p q k n true same e within = sym (filter_with p q k same (sym e) 0 n (omega arith) (omega (arith, within (sym e))))
filter_put p q k n false same e within = sym (filter_without p q k same (sym e) (range_with_len 0 n))

-- Inboxes

-- at another place a written list is as it was
elsewhere : {A : Type 0} (xs : List A) (i k : ℕ) (a d : A) → (i == k) ≡ false → get_or (set xs k a) i d ≡ get_or xs i d
elsewhere xs i k a d e = get_or-set_other xs k i a d (eqb-false i k e)

-- messages from a sender wait
pub senders_with : (inbox : Inbox) (from : ℕ) (messages : List Msg) → from < length inbox → is_empty messages ≡ false → with_node from (senders_in inbox) ≡ senders_in (with_queue_from inbox from messages)
senders_with inbox from messages l e =
    let new = with_queue_from inbox from messages in
    rw (length-set inbox from messages) (sym (filter_with (λ i. not (is_empty (queue_from inbox i))) (λ i. not (is_empty (queue_from new i))) from
    (λ i other. ap (λ queue. not (is_empty queue)) (elsewhere inbox i from messages [] other))
    (ap (λ queue. not (is_empty queue)) (get_or-set_same inbox from messages [] l) ∙ ap not e) 0 (length inbox) (omega arith) (omega arith)))

-- no message from a sender waits
pub senders_without : (inbox : Inbox) (from : ℕ) (messages : List Msg) → from < length inbox → is_empty messages ≡ true → without from (senders_in inbox) ≡ senders_in (with_queue_from inbox from messages)
senders_without inbox from messages l e =
    let new = with_queue_from inbox from messages in
    rw (length-set inbox from messages) (sym (filter_without (λ i. not (is_empty (queue_from inbox i))) (λ i. not (is_empty (queue_from new i))) from
    (λ i other. ap (λ queue. not (is_empty queue)) (elsewhere inbox i from messages [] other))
    (ap (λ queue. not (is_empty queue)) (get_or-set_same inbox from messages [] l) ∙ ap not e) (range_with_len 0 (length inbox))))

-- whether a message from a sender waits stays as it is
pub senders_same : (inbox : Inbox) (from : ℕ) (messages : List Msg) → from < length inbox → is_empty messages ≡ is_empty (queue_from inbox from) → senders_in inbox ≡ senders_in (with_queue_from inbox from messages)
senders_same inbox from messages l e =
    let new = with_queue_from inbox from messages in
    rw (length-set inbox from messages) (filter_agree (λ i. not (is_empty (queue_from inbox i))) (λ i. not (is_empty (queue_from new i)))
    (λ i. elim (cases_Bool (i == from)) [
      | inl here ↦ subst (λ (j : ℕ). not (is_empty (queue_from inbox j)) ≡ not (is_empty (queue_from new j))) (sym (eqb-true i from here)) (ap not (sym (ap is_empty (get_or-set_same inbox from messages [] l) ∙ e)))
      | inr other ↦ ap (λ queue. not (is_empty queue)) (sym (elsewhere inbox i from messages [] other))
    ]) (range_with_len 0 (length inbox)))

-- no one waits in an inbox in which no list has a message
pub senders_none : (count : ℕ) → senders_in (replicate count []) ≡ []
senders_none count = nothing (λ i. not (is_empty (queue_from (replicate count []) i))) (range_with_len 0 (length (replicate count []))) (λ i. elim (cases_lt i count) [
  | inl l ↦ ap (λ queue. not (is_empty queue)) (get_or-replicate count i [] [] l)
  | inr l ↦ ap (λ queue. not (is_empty queue)) (get_or_past (replicate count []) i [] (omega (arith, length-replicate {A = List Msg} count [])))
])

-- with a message behind the others a list has a message
pub pushed_some : (messages : List Msg) (msg : Msg) → is_empty (messages ++ msg ∷ []) ≡ false
pushed_some [] msg = refl
pushed_some (first ∷ rest) msg = refl

-- where messages stay there were messages
pub rest_some : (messages : List Msg) → is_empty (rest_of messages) ≡ false → is_empty (rest_of messages) ≡ is_empty messages
rest_some [] e = refl
rest_some (first ∷ rest) e = e

-- The nodes that can act

-- past the nodes no one acts
pub acts_within : (pending : PendingData) (node : ℕ) → length pending.steps ≡ length pending.inboxes → can_act_in pending node ≡ true → node < length pending.inboxes
acts_within pending node same acts = elim (cases_lt node (length pending.inboxes)) [
  | inl l ↦ l
  | inr l ↦ absurd (false≢true (sym (ap (λ can. can || not (is_empty (senders_in (inbox_of pending.inboxes node)))) (get_or_past pending.steps node false (omega arith)) ∙ ap (λ inbox. not (is_empty (senders_in inbox))) (get_or_past pending.inboxes node [] l)) ∙ acts))
]

-- who can act once one node has changed
pub acting_put : (old new : PendingData) (node : ℕ) (acts : Bool) → length new.inboxes ≡ length old.inboxes → length new.steps ≡ length new.inboxes → ((i : ℕ) → (i == node) ≡ false → can_act_in new i ≡ can_act_in old i) → acts ≡ can_act_in new node → (if acts then with_node node (acting_in old) else without node (acting_in old)) ≡ acting_in new
acting_put old new node acts as_many complete same e =
    let put = filter_put (can_act_in old) (can_act_in new) node (length old.inboxes) acts same e (λ can. omega (arith, acts_within new node complete can)) in
    put ∙ ap (λ n. filter (can_act_in new) (range_with_len 0 n)) (sym as_many)

-- once it is noted whether a node can step
pub acting_step : (inboxes : List Inbox) (steps noted : List Bool) (node : ℕ) (can acts : Bool) → length steps ≡ length inboxes → noted ≡ set steps node can → acts ≡ can_act_in (record { inboxes = inboxes; steps = noted }) node → (if acts then with_node node (acting_in (record { inboxes = inboxes; steps = steps })) else without node (acting_in (record { inboxes = inboxes; steps = steps }))) ≡ acting_in (record { inboxes = inboxes; steps = noted })
acting_step inboxes steps noted node can acts complete e is =
    acting_put (record { inboxes = inboxes; steps = steps }) (record { inboxes = inboxes; steps = noted }) node acts refl
    (ap length e ∙ length-set steps node can ∙ complete)
    (λ i other. ap (λ step. step || not (is_empty (senders_in (inbox_of inboxes i)))) (ap (λ flags. get_or flags i false) e ∙ elsewhere steps i node can false other))
    is

-- once a node has another inbox
pub acting_inbox : (inboxes : List Inbox) (steps : List Bool) (node : ℕ) (inbox : Inbox) (acts : Bool) → length steps ≡ length inboxes → acts ≡ can_act_in (record { inboxes = set inboxes node inbox; steps = steps }) node → (if acts then with_node node (acting_in (record { inboxes = inboxes; steps = steps })) else without node (acting_in (record { inboxes = inboxes; steps = steps }))) ≡ acting_in (record { inboxes = set inboxes node inbox; steps = steps })
acting_inbox inboxes steps node inbox acts complete is =
    acting_put (record { inboxes = inboxes; steps = steps }) (record { inboxes = set inboxes node inbox; steps = steps }) node acts
    (length-set inboxes node inbox)
    (complete ∙ sym (length-set inboxes node inbox))
    (λ i other. ap (λ one. get_or steps i false || not (is_empty (senders_in one))) (elsewhere inboxes i node inbox [] other))
    is

-- who can act stays the same where a node has another inbox, and can act as it could
pub acting_kept : (inboxes : List Inbox) (steps : List Bool) (node : ℕ) (inbox : Inbox) → can_act_in (record { inboxes = inboxes; steps = steps }) node ≡ can_act_in (record { inboxes = set inboxes node inbox; steps = steps }) node
    → acting_in (record { inboxes = inboxes; steps = steps }) ≡ acting_in (record { inboxes = set inboxes node inbox; steps = steps })
acting_kept inboxes steps node inbox same =
    let old : PendingData = record { inboxes = inboxes; steps = steps } in
    let new : PendingData = record { inboxes = set inboxes node inbox; steps = steps } in
    filter_agree (can_act_in old) (can_act_in new)
    (λ i. elim (cases_Bool (i == node)) [
      | inl here ↦ subst (λ (j : ℕ). can_act_in old j ≡ can_act_in new j) (sym (eqb-true i node here)) same
      | inr other ↦ ap (λ one. get_or steps i false || not (is_empty (senders_in one))) (sym (elsewhere inboxes i node inbox [] other))
    ]) (range_with_len 0 (length inboxes))
    ∙ ap (λ n. filter (can_act_in new) (range_with_len 0 n)) (sym (length-set inboxes node inbox))

-- a set that has a node without another has one
some_before : (node : ℕ) (nodes : List ℕ) → is_empty (without node nodes) ≡ false → is_empty nodes ≡ false
some_before node [] e = e
some_before node (first ∷ rest) e = refl

-- for whom a message waits once one was taken, for them one waited before
awaited_before : (inbox : Inbox) (from : ℕ) → is_empty (senders_in (with_queue_from inbox from (rest_of (queue_from inbox from)))) ≡ false → is_empty (senders_in inbox) ≡ false
awaited_before inbox from e =
    let rest = rest_of (queue_from inbox from) in
    elim (cases_lt from (length inbox)) [
      | inl l ↦ elim (cases_Bool (is_empty rest)) [
        | inl none ↦ some_before from (senders_in inbox) (ap is_empty (senders_without inbox from rest l none) ∙ e)
        | inr some ↦ ap is_empty (senders_same inbox from rest l (rest_some (queue_from inbox from) some)) ∙ e
      ]
      | inr l ↦ ap (λ one. is_empty (senders_in one)) (sym (set_past inbox from rest l)) ∙ e
    ]

-- who can act once a message to it was taken, could act before
pub acted_before : (inboxes : List Inbox) (steps : List Bool) (to from : ℕ) (inbox : Inbox) → to < length inboxes → inbox ≡ with_queue_from (inbox_of inboxes to) from (rest_of (queue_from (inbox_of inboxes to) from))
    → can_act_in (record { inboxes = set inboxes to inbox; steps = steps }) to ≡ true → can_act_in (record { inboxes = inboxes; steps = steps }) to ≡ true
acted_before inboxes steps to from inbox l e acts = elim (cases_Bool (get_or steps to false)) [
  | inl can ↦ ap (λ step. step || not (is_empty (senders_in (inbox_of inboxes to)))) can
  | inr cannot ↦
      let awaited : not (is_empty (senders_in inbox)) ≡ true =
      sym (ap (λ step. step || not (is_empty (senders_in (inbox_of (set inboxes to inbox) to)))) cannot ∙ ap (λ one. not (is_empty (senders_in one))) (get_or-set_same inboxes to inbox [] l)) ∙ acts in
      let some : is_empty (senders_in (inbox_of inboxes to)) ≡ false = awaited_before (inbox_of inboxes to) from (ap (λ one. is_empty (senders_in one)) (sym e) ∙ not-true _ awaited) in
      ap (λ step. step || not (is_empty (senders_in (inbox_of inboxes to)))) cannot ∙ ap not some
]

-- a set with one node more isn't empty
with_some : (nodes : List ℕ) (node : ℕ) → is_empty (with_node node nodes) ≡ false
with_some [] node = refl
with_some (first ∷ rest) node = by (nat_lt node first) (node == first)
  where
    by : (below there : Bool) → is_empty (cond below (node ∷ first ∷ rest) (cond there (first ∷ rest) (first ∷ with_node node rest))) ≡ false
    by true there = refl
    by false true = refl
    by false false = refl

either_true : (b : Bool) → (b || true) ≡ true
either_true true = refl
either_true false = refl

-- who has an inbox with a place in it is a node
pub node_within : (inboxes : List Inbox) (node from : ℕ) → from < length (inbox_of inboxes node) → node < length inboxes
node_within inboxes node from l = elim (cases_lt node (length inboxes)) [
  | inl h ↦ h
  | inr h ↦ absurd (omega (arith, ap length (get_or_past inboxes node [] h)))
]

-- who has a message can act
pub acts_pushed : (inboxes : List Inbox) (steps : List Bool) (to from : ℕ) (msg : Msg) (inbox : Inbox) → to < length inboxes → from < length (inbox_of inboxes to) → inbox ≡ with_queue_from (inbox_of inboxes to) from (queue_from (inbox_of inboxes to) from ++ msg ∷ []) → true ≡ can_act_in (record { inboxes = set inboxes to inbox; steps = steps }) to
acts_pushed inboxes steps to from msg inbox l m e =
    let old = inbox_of inboxes to in
    let messages = queue_from old from ++ msg ∷ [] in
    let some : is_empty (senders_in inbox) ≡ false = ap (λ one. is_empty (senders_in one)) e ∙ ap is_empty (sym (senders_with old from messages m (pushed_some (queue_from old from) msg))) ∙ with_some (senders_in old) from in
    sym (ap (λ one. get_or steps to false || not (is_empty (senders_in one))) (get_or-set_same inboxes to inbox [] l) ∙ ap (λ none. get_or steps to false || not none) some ∙ either_true (get_or steps to false))

-- no one can act where nothing is pending
pub acting_none : (nodes count : ℕ) → acting_in (record { inboxes = replicate nodes (replicate count []); steps = replicate nodes false }) ≡ []
acting_none nodes count =
    let inboxes : List Inbox = replicate nodes (replicate count []) in
    let none : is_empty (senders_in (replicate count [])) ≡ true = ap is_empty (senders_none count) in
    nothing (can_act_in (record { inboxes = inboxes; steps = replicate nodes false })) (range_with_len 0 (length inboxes)) (λ i. elim (cases_lt i nodes) [
      | inl l ↦ ap (λ step. step || not (is_empty (senders_in (inbox_of inboxes i)))) (get_or-replicate nodes i false false l) ∙ ap (λ inbox. not (is_empty (senders_in inbox))) (get_or-replicate nodes i (replicate count []) [] l) ∙ ap not none
      | inr l ↦ ap (λ step. step || not (is_empty (senders_in (inbox_of inboxes i)))) (get_or_past (replicate nodes false) i false (omega (arith, length-replicate nodes false))) ∙ ap (λ inbox. not (is_empty (senders_in inbox))) (get_or_past inboxes i [] (omega (arith, length-replicate {A = Inbox} nodes (replicate count []))))
    ])
