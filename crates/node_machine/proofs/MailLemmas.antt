-- What messages join which lists.
use Rattle.std.proofs.Common.{◌≡◌, ℕ, ◌<◌, Bool, true, false, List, [], ◌∷◌, ◌++◌, length, map, refl, sym, ap, subst, ◌∙◌, inl, inr, append_assoc}
use Rattle.std.specs.Prelude.{cond, ◌==◌, slice_index_or, slice_set}
use Rattle.std.proofs.lemmas.Bool.Decides.{eqb_tells}
use Rattle.std.proofs.lemmas.Bool.{eq-eqb, ne_eqb}
use Rattle.std.proofs.lemmas.List.{append-nil, length-set, get_or-set_same, get_or-set_other}
use Rattle.wire_msg.specs.declared.messages.Msg.{Msg}
use Rattle.event_journal.specs.State.{messages_to}
use Rattle.event_journal.proofs.Queues.{messages_to-append}
use Rattle.node_machine.specs.Pending.{Inbox, inbox_of, queue_from, queue_in, with_queue_from, with_message, with_messages, with_rest, AreInboxes}

cond_same : {A : Type 0} (b : Bool) (a : A) → cond b a a ≡ a
cond_same true a = refl
cond_same false a = refl

module _ (count : ℕ) where
  -- one inbox has another list: every inbox has its length still
  set_inboxes : (inboxes : List Inbox) (from to : ℕ) (messages : List Msg) → AreInboxes count inboxes
      → AreInboxes count (slice_set inboxes to (with_queue_from (inbox_of inboxes to) from messages))
  set_inboxes inboxes from to messages are = record {
    each_node = length-set inboxes to (with_queue_from (inbox_of inboxes to) from messages) ∙ are.each_node;
    each_sender = λ node low. elim (eqb_tells node to) [
      | inl same ↦
          let inside : to < length inboxes = subst (λ n. n < length inboxes) same.1 (subst (λ n. node < n) (sym are.each_node) low) in
          ap (λ n. length (slice_index_or (slice_set inboxes to (with_queue_from (inbox_of inboxes to) from messages)) n [])) same.1
          ∙ ap length (get_or-set_same inboxes to (with_queue_from (inbox_of inboxes to) from messages) [] inside)
          ∙ length-set (inbox_of inboxes to) from messages
          ∙ are.each_sender to (subst (λ n. n < count) same.1 low)
      | inr other ↦
          ap length (get_or-set_other inboxes to node (with_queue_from (inbox_of inboxes to) from messages) [] other.1)
          ∙ are.each_sender node low
    ];
  }

  -- the list from a sender to a node, after one list was replaced
  set_queue : (inboxes : List Inbox) (from to : ℕ) (messages : List Msg) (i j : ℕ) → AreInboxes count inboxes → i < count → j < count
      → queue_in (slice_set inboxes to (with_queue_from (inbox_of inboxes to) from messages)) i j
      ≡ cond (i == from) (cond (j == to) messages (queue_in inboxes i j)) (queue_in inboxes i j)
  set_queue inboxes from to messages i j are sender low = elim (eqb_tells j to) [
    | inl same ↦
        let inside : to < length inboxes = subst (λ n. n < length inboxes) same.1 (subst (λ n. j < n) (sym are.each_node) low) in
        let here : queue_in (slice_set inboxes to (with_queue_from (inbox_of inboxes to) from messages)) i j ≡ queue_from (with_queue_from (inbox_of inboxes to) from messages) i =
        ap (λ n. queue_in (slice_set inboxes to (with_queue_from (inbox_of inboxes to) from messages)) i n) same.1
        ∙ ap (λ inbox. queue_from inbox i) (get_or-set_same inboxes to (with_queue_from (inbox_of inboxes to) from messages) [] inside) in
        elim (eqb_tells i from) [
          | inl own ↦
              let held : from < length (inbox_of inboxes to) =
              subst (λ n. from < n) (sym (are.each_sender to (subst (λ n. n < count) same.1 low))) (subst (λ n. n < count) own.1 sender) in
              rw (own.0, same.0) (here ∙ ap (queue_from (with_queue_from (inbox_of inboxes to) from messages)) own.1
              ∙ get_or-set_same (inbox_of inboxes to) from messages [] held)
          | inr others ↦
              rw (others.0) (here ∙ get_or-set_other (inbox_of inboxes to) from i messages [] others.1 ∙ ap (queue_in inboxes i) (sym same.1))
        ]
    | inr other ↦
        let there : queue_in (slice_set inboxes to (with_queue_from (inbox_of inboxes to) from messages)) i j ≡ queue_in inboxes i j =
        ap (λ inbox. queue_from inbox i) (get_or-set_other inboxes to j (with_queue_from (inbox_of inboxes to) from messages) [] other.1) in
        rw (other.0) (there ∙ sym (cond_same (i == from) (queue_in inboxes i j)))
  ]

  pub with_rest_is : (inboxes : List Inbox) (from to : ℕ) (messages : List Msg) → AreInboxes count inboxes → AreInboxes count (with_rest from to messages inboxes)
  with_rest_is inboxes from to messages are = set_inboxes inboxes from to messages are

  pub with_rest_at : (inboxes : List Inbox) (from to : ℕ) (messages : List Msg) (i j : ℕ) → AreInboxes count inboxes → i < count → j < count
      → queue_in (with_rest from to messages inboxes) i j ≡ cond (i == from) (cond (j == to) messages (queue_in inboxes i j)) (queue_in inboxes i j)
  with_rest_at inboxes from to messages i j are sender low = set_queue inboxes from to messages i j are sender low

  pub with_message_is : (inboxes : List Inbox) (from to : ℕ) (msg : Msg) → AreInboxes count inboxes → AreInboxes count (with_message from to msg inboxes)
  with_message_is inboxes from to msg are = set_inboxes inboxes from to (queue_in inboxes from to ++ msg ∷ []) are

  pub with_messages_are : (from : ℕ) (sent : List (ℕ × Msg)) (inboxes : List Inbox) → AreInboxes count inboxes → AreInboxes count (with_messages from sent inboxes)
  with_messages_are from [] inboxes are = are
  with_messages_are from (message ∷ messages) inboxes are =
      with_messages_are from messages (with_message from message.0 message.1 inboxes) (with_message_is inboxes from message.0 message.1 are)

  -- the list from the sender to a node, after one message was sent
  own_queue : (inboxes : List Inbox) (from : ℕ) (message : ℕ × Msg) (j : ℕ) → AreInboxes count inboxes → from < count → j < count
      → queue_in (with_message from message.0 message.1 inboxes) from j ≡ queue_in inboxes from j ++ messages_to j (message ∷ [])
  own_queue inboxes from message j are sender low = elim (eqb_tells j message.0) [
    | inl same ↦
        let is : (message.0 == j) ≡ true = eq-eqb message.0 j (sym same.1) in
        set_queue inboxes from message.0 (queue_in inboxes from message.0 ++ message.1 ∷ []) from j are sender low
        ∙ ap (λ b. cond b (cond (j == message.0) (queue_in inboxes from message.0 ++ message.1 ∷ []) (queue_in inboxes from j)) (queue_in inboxes from j)) (eq-eqb from from refl)
        ∙ ap (λ b. cond b (queue_in inboxes from message.0 ++ message.1 ∷ []) (queue_in inboxes from j)) same.0
        ∙ ap (λ n. queue_in inboxes from n ++ message.1 ∷ []) (sym same.1)
        ∙ ap (λ b. queue_in inboxes from j ++ map (λ m. m.1) (cond b (message ∷ []) [])) (sym is)
    | inr other ↦
        let not : (message.0 == j) ≡ false = ne_eqb message.0 j (λ e. other.1 (sym e)) in
        set_queue inboxes from message.0 (queue_in inboxes from message.0 ++ message.1 ∷ []) from j are sender low
        ∙ ap (λ b. cond b (cond (j == message.0) (queue_in inboxes from message.0 ++ message.1 ∷ []) (queue_in inboxes from j)) (queue_in inboxes from j)) (eq-eqb from from refl)
        ∙ ap (λ b. cond b (queue_in inboxes from message.0 ++ message.1 ∷ []) (queue_in inboxes from j)) other.0
        ∙ sym (append-nil (queue_in inboxes from j))
        ∙ ap (λ b. queue_in inboxes from j ++ map (λ m. m.1) (cond b (message ∷ []) [])) (sym not)
  ]

  -- each list from the sender has what was sent to its receiver behind it
  pub own_queues : (from : ℕ) (sent : List (ℕ × Msg)) (inboxes : List Inbox) (j : ℕ) → AreInboxes count inboxes → from < count → j < count
      → queue_in (with_messages from sent inboxes) from j ≡ queue_in inboxes from j ++ messages_to j sent
  own_queues from [] inboxes j are sender low = sym (append-nil (queue_in inboxes from j))
  own_queues from (message ∷ messages) inboxes j are sender low =
      own_queues from messages (with_message from message.0 message.1 inboxes) j (with_message_is inboxes from message.0 message.1 are) sender low
      ∙ ap (λ q. q ++ messages_to j messages) (own_queue inboxes from message j are sender low)
      ∙ append_assoc (queue_in inboxes from j) (messages_to j (message ∷ [])) (messages_to j messages)
      ∙ ap (λ q. queue_in inboxes from j ++ q) (sym (messages_to-append j (message ∷ []) messages))

  -- no other list changes
  pub other_queues : (from : ℕ) (sent : List (ℕ × Msg)) (inboxes : List Inbox) (i j : ℕ) → AreInboxes count inboxes → (i == from) ≡ false → i < count → j < count
      → queue_in (with_messages from sent inboxes) i j ≡ queue_in inboxes i j
  other_queues from [] inboxes i j are other sender low = refl
  other_queues from (message ∷ messages) inboxes i j are other sender low =
      other_queues from messages (with_message from message.0 message.1 inboxes) i j (with_message_is inboxes from message.0 message.1 are) other sender low
      ∙ set_queue inboxes from message.0 (queue_in inboxes from message.0 ++ message.1 ∷ []) i j are sender low
      ∙ ap (λ b. cond b (cond (j == message.0) (queue_in inboxes from message.0 ++ message.1 ∷ []) (queue_in inboxes i j)) (queue_in inboxes i j)) other
