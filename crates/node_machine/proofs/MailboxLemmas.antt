-- What waits in a mailbox, once a message has come or a sender's first message was taken.
use Rattle.std.proofs.Common.{◌≡◌, ℕ, zero, suc, ◌<◌, ◌≤◌, Bool, true, false, cond, List, [], ◌∷◌, ◌++◌, length, get_or, set, take, drop, map, replicate, Some, None, refl, sym, ap, ◌∙◌, arith, inl, inr, if◌then◌else◌}
use Rattle.std.specs.Prelude.{Option, is_some, not, ◌==◌, filter, position, remove, slice_get, All}
use Rattle.std.specs.List.{range_with_len, position_or_len}
use Rattle.std.specs.Option.{option_map}
use Rattle.std.proofs.lemmas.Bool.{cases_lt, cases_Bool, eqb-true, eqb-false, eq-eqb, ne_eqb, ltb-false, false≢true}
use Rattle.std.proofs.lemmas.Bool.Decides.{eqb_tells}
use Rattle.std.proofs.lemmas.Option.{slice_get-get_or}
use Rattle.std.proofs.lemmas.List.{append-nil, map-append, length-set, get_or-set_same, get_or-set_other, get_or-replicate, get_or_past, length-replicate}
use Rattle.std.proofs.lemmas.List.Elements.{filter-append, All-nil, All-head, All-tail, All-push, All-append, All-take, All-drop}
use Rattle.std.proofs.lemmas.List.FromFn.{length-map-range_with_len, get_or-map-range_with_len, fill_by_all}
use Rattle.std.proofs.lemmas.List.Quantifiers.{position-Some}
use Rattle.event_journal.specs.State.{is_empty}
use Rattle.wire_msg.specs.declared.messages.Msg.{Msg}
use Rattle.node_set.specs.NodeSet.{has_node, with_node, without}
use Rattle.node_set.proofs.Ranges.{has_node-range}
use Rattle.node_machine.specs.declared.pending.Mail.{Mail}
use Rattle.node_machine.specs.Pending.{Inbox, queue_from, senders_in, with_queue_from, first_of, rest_of}
use Rattle.node_machine.specs.Mailbox.{is_from, messages_from, lists_from, IsMailbox}
use Rattle.node_machine.proofs.PendingLemmas.{senders_none, senders_with, senders_without, senders_same, pushed_some, rest_some}

-- The first that passes a test

-- it is the first of what passes
passes_first : {X : Type 0} (p : X → Bool) (xs : List X) (i : ℕ) (d : X) → i < length xs → p (get_or xs i d) ≡ true → ((k : ℕ) → k < i → p (get_or xs k d) ≡ false)
    → filter p xs ≡ get_or xs i d ∷ filter p (remove xs i)
passes_first p [] i d l here before = absurd (omega arith)
passes_first p (x ∷ xs) zero d l here before = rw here refl
passes_first p (x ∷ xs) (suc i) d l here before =
    let fails : p x ≡ false = before 0 (omega arith) in
    rw fails (passes_first p xs i d (omega arith) here (λ k m. before (suc k) (omega arith)))

-- without what another test doesn't pass, that one passes the same
passes_same : {X : Type 0} (q : X → Bool) (xs : List X) (i : ℕ) (d : X) → i < length xs → q (get_or xs i d) ≡ false → filter q (remove xs i) ≡ filter q xs
passes_same q [] i d l e = absurd (omega arith)
passes_same q (x ∷ xs) zero d l e = rw e refl
passes_same q (x ∷ xs) (suc i) d l e = ap (λ ys. cond (q x) (x ∷ ys) ys) (passes_same q xs i d (omega arith) e)

-- and what else passes stands behind it
passes_behind : {X : Type 0} (p : X → Bool) (xs : List X) (i : ℕ) (d : X) → i < length xs → ((k : ℕ) → k < i → p (get_or xs k d) ≡ false) → filter p (drop (suc i) xs) ≡ filter p (remove xs i)
passes_behind p [] i d l before = absurd (omega arith)
passes_behind p (x ∷ xs) zero d l before = refl
passes_behind p (x ∷ xs) (suc i) d l before =
    let fails : p x ≡ false = before 0 (omega arith) in
    rw fails (passes_behind p xs i d (omega arith) (λ k m. before (suc k) (omega arith)))

-- where no place is the first, nothing passes
passes_none : {X : Type 0} (p : X → Bool) (xs : List X) → length xs ≤ position_or_len p xs → filter p xs ≡ []
passes_none p [] l = refl
passes_none p (x ∷ xs) l = elim (cases_Bool (p x)) [
  | inl here ↦ absurd (omega (arith, rw here at l))
  | inr other ↦ rw other (passes_none p xs (omega (arith, rw other at l)))
]

none_below : (b : Bool) (i : ℕ) → None ≡ cond b (Some i) None → b ≡ false
none_below true i e = cc
none_below false i e = refl

-- Each sender's messages

-- where no place is a sender's first, no message is from it
none_from : (mail : List Mail) (from : ℕ) → None ≡ position (is_from from) mail → messages_from mail from ≡ []
none_from mail from e = ap (map (λ one. one.msg)) (passes_none (is_from from) mail (ltb-false _ _ (none_below _ _ e)))

-- no message is from past the senders
none_past : (mail : List Mail) (count from : ℕ) → All (λ one. one.from < count) mail → count ≤ from → messages_from mail from ≡ []
none_past [] count from known l = refl
none_past (one ∷ mail) count from known l =
    let other : (one.from == from) ≡ false = ne_eqb one.from from (λ e. absurd (omega (arith, All-head (λ one. one.from < count) one mail known))) in
    rw other (none_past mail count from (All-tail (λ one. one.from < count) one mail known) l)

-- a message has come
come_from : (mail : List Mail) (one : Mail) (i : ℕ) → messages_from (mail ++ one ∷ []) i ≡ messages_from mail i ++ messages_from (one ∷ []) i
come_from mail one i = ap (map (λ one. one.msg)) (filter-append (is_from i) mail (one ∷ [])) ∙ map-append (λ one. one.msg) (filter (is_from i) mail) (filter (is_from i) (one ∷ []))

-- a sender's first message was taken from its place
record IsTaken (mail left : List Mail) (from place : ℕ) : Type 0 where
  some : is_empty (messages_from mail from) ≡ false
  message : option_map (λ one. one.msg) (slice_get mail place) ≡ first_of (messages_from mail from)
  rest : messages_from left from ≡ rest_of (messages_from mail from)
  behind : messages_from (drop (suc place) mail) from ≡ messages_from left from
  others : (i : ℕ) → (i == from) ≡ false → messages_from left i ≡ messages_from mail i

taken : (mail : List Mail) (from place : ℕ) (d : Mail) → Some place ≡ position (is_from from) mail → IsTaken mail (remove mail place) from place
taken mail from place d at =
    let first = position-Some (is_from from) mail place d (sym at) in
    let splits = passes_first (is_from from) mail place d first.0 first.1 first.2 in
    let messages : messages_from mail from ≡ (get_or mail place d).msg ∷ messages_from (remove mail place) from = ap (map (λ one. one.msg)) splits in
    record {
      some = ap is_empty messages;
      message = ap (option_map (λ one. one.msg)) (slice_get-get_or mail place d first.0) ∙ sym (ap first_of messages);
      rest = sym (ap rest_of messages);
      behind = ap (map (λ one. one.msg)) (passes_behind (is_from from) mail place d first.0 first.2);
      others = λ i other. ap (map (λ one. one.msg)) (passes_same (is_from i) mail place d first.0 (ne_eqb (get_or mail place d).from i (λ e. absurd (false≢true (sym other ∙ eq-eqb i from (sym e ∙ eqb-true (get_or mail place d).from from first.1))))));
    }

is_taken : (mail left : List Mail) (from place : ℕ) → Some place ≡ position (is_from from) mail → left ≡ remove mail place → IsTaken mail left from place
is_taken [] left from place at e = cc
is_taken (one ∷ mail) left from place at e = rw e (taken (one ∷ mail) from place one at)

-- a sender has a message where some place is its first
messages_wait : (mail : List Mail) (from : ℕ) (place : Option ℕ) → place ≡ position (is_from from) mail → is_empty (messages_from mail from) ≡ not (is_some place)
messages_wait mail from None at = ap is_empty (none_from mail from at)
messages_wait mail from (Some place) at = (is_taken mail (remove mail place) from place at refl).some

-- The lists

-- a sender's list is its messages
list_is : (mail : List Mail) (count from : ℕ) → All (λ one. one.from < count) mail → queue_from (lists_from mail count) from ≡ messages_from mail from
list_is mail count from known = elim (cases_lt from count) [
  | inl l ↦ get_or-map-range_with_len (messages_from mail) 0 count from from [] l (omega arith)
  | inr l ↦ get_or_past (lists_from mail count) from [] (omega (arith, length-map-range_with_len (messages_from mail) 0 count)) ∙ sym (none_past mail count from known l)
]

-- only one sender's messages have changed
lists_changed : (mail new : List Mail) (count from : ℕ) (messages : List Msg) → messages_from new from ≡ messages → ((i : ℕ) → (i == from) ≡ false → messages_from new i ≡ messages_from mail i)
    → lists_from new count ≡ with_queue_from (lists_from mail count) from messages
lists_changed mail new count from messages here others =
    let long = length-map-range_with_len (messages_from mail) 0 count in
    sym (fill_by_all (messages_from new) (set (lists_from mail count) from messages) count [] (length-set (lists_from mail count) from messages ∙ long) (λ k l. elim (eqb_tells k from) [
      | inl same ↦ ap (λ i. get_or (set (lists_from mail count) from messages) i []) same.1 ∙ get_or-set_same (lists_from mail count) from messages [] (omega (arith, long, same.1)) ∙ sym here ∙ ap (messages_from new) (sym same.1)
      | inr other ↦ get_or-set_other (lists_from mail count) from k messages [] other.1 ∙ get_or-map-range_with_len (messages_from mail) 0 count k k [] l (omega arith) ∙ sym (others k other.0)
    ]))

-- A mailbox

-- with no message
pub lists_none : (count : ℕ) → lists_from [] count ≡ replicate count []
lists_none count = sym (fill_by_all (messages_from []) (replicate count []) count [] (length-replicate {A = List Msg} count []) (λ k l. get_or-replicate count k [] [] l))

pub empty_mailbox : (count : ℕ) → IsMailbox count [] []
empty_mailbox count = record {
  known = All-nil (λ one. one.from < count);
  waiting = sym (ap senders_in (lists_none count) ∙ senders_none count);
}

-- with a message more
pub pushed_lists : (count : ℕ) (mail : List Mail) (one : Mail) → All (λ one. one.from < count) mail
    → lists_from (mail ++ one ∷ []) count ≡ with_queue_from (lists_from mail count) one.from (queue_from (lists_from mail count) one.from ++ one.msg ∷ [])
pushed_lists count mail one known =
    lists_changed mail (mail ++ one ∷ []) count one.from (queue_from (lists_from mail count) one.from ++ one.msg ∷ [])
    (come_from mail one one.from ∙ ap (λ b. messages_from mail one.from ++ map (λ one. one.msg) (cond b (one ∷ []) [])) (eq-eqb one.from one.from refl) ∙ ap (λ messages. messages ++ one.msg ∷ []) (sym (list_is mail count one.from known)))
    (λ i other. come_from mail one i ∙ ap (λ b. messages_from mail i ++ map (λ one. one.msg) (cond b (one ∷ []) [])) (ne_eqb one.from i (λ e. eqb-false i one.from other (sym e))) ∙ append-nil (messages_from mail i))

pub pushed_mailbox : (count : ℕ) (mail : List Mail) (senders : List ℕ) (one : Mail) → one.from < count → IsMailbox count mail senders → IsMailbox count (mail ++ one ∷ []) (with_node one.from senders)
pushed_mailbox count mail senders one l is =
    let inbox = lists_from mail count in
    let messages = queue_from inbox one.from ++ one.msg ∷ [] in
    record {
      known = All-push (λ one. one.from < count) mail one is.known l;
      waiting = ap (with_node one.from) is.waiting ∙ senders_with inbox one.from messages (omega (arith, length-map-range_with_len (messages_from mail) 0 count)) (pushed_some (queue_from inbox one.from) one.msg) ∙ ap senders_in (sym (pushed_lists count mail one is.known));
    }

-- where no message of a sender waits
pub absent_list : (count : ℕ) (mail : List Mail) (from : ℕ) → All (λ one. one.from < count) mail → None ≡ position (is_from from) mail → queue_from (lists_from mail count) from ≡ []
absent_list count mail from known e = list_is mail count from known ∙ none_from mail from e

-- without a sender's first message
module _ (count : ℕ) (mail left : List Mail) (from place : ℕ) (at : Some place ≡ position (is_from from) mail) (e : left ≡ remove mail place) where
  pub taken_message : All (λ one. one.from < count) mail → option_map (λ one. one.msg) (slice_get mail place) ≡ first_of (queue_from (lists_from mail count) from)
  taken_message known = (is_taken mail left from place at e).message ∙ ap first_of (sym (list_is mail count from known))

  pub taken_lists : All (λ one. one.from < count) mail → lists_from left count ≡ with_queue_from (lists_from mail count) from (rest_of (queue_from (lists_from mail count) from))
  taken_lists known =
      let taken = is_taken mail left from place at e in
      lists_changed mail left count from (rest_of (queue_from (lists_from mail count) from)) (taken.rest ∙ ap rest_of (sym (list_is mail count from known))) taken.others

  known_left : All (λ one. one.from < count) mail → All (λ one. one.from < count) left
  known_left known =
      rw e (All-append (λ one. one.from < count) (take place mail) (drop (suc place) mail) (All-take (λ one. one.from < count) place mail known) (All-drop (λ one. one.from < count) (suc place) mail known))

  -- the sender is one of them
  sender_within : All (λ one. one.from < count) mail → from < length (lists_from mail count)
  sender_within known = elim (cases_lt from count) [
    | inl l ↦ omega (arith, length-map-range_with_len (messages_from mail) 0 count)
    | inr l ↦ absurd (false≢true (sym (is_taken mail left from place at e).some ∙ ap is_empty (none_past mail count from known l)))
  ]

  -- what stays of the sender's list is what is behind the place
  list_left : All (λ one. one.from < count) mail → is_empty (rest_of (queue_from (lists_from mail count) from)) ≡ is_empty (messages_from (drop (suc place) mail) from)
  list_left known =
      let taken = is_taken mail left from place at e in
      ap (λ queue. is_empty (rest_of queue)) (list_is mail count from known) ∙ ap is_empty (sym taken.rest ∙ sym taken.behind)

  -- the sender stays one from whom a message waits where there is one behind
  senders_left : (senders : List ℕ) (more : Bool) → IsMailbox count mail senders → is_empty (messages_from (drop (suc place) mail) from) ≡ not more
      → (if more then senders else without from senders) ≡ senders_in (lists_from left count)
  senders_left senders true is some =
      let inbox = lists_from mail count in
      is.waiting ∙ senders_same inbox from (rest_of (queue_from inbox from)) (sender_within is.known) (rest_some (queue_from inbox from) (list_left is.known ∙ some)) ∙ ap senders_in (sym (taken_lists is.known))
  senders_left senders false is none =
      let inbox = lists_from mail count in
      ap (without from) is.waiting ∙ senders_without inbox from (rest_of (queue_from inbox from)) (sender_within is.known) (list_left is.known ∙ none) ∙ ap senders_in (sym (taken_lists is.known))

  pub taken_mailbox : (senders : List ℕ) → IsMailbox count mail senders → IsMailbox count left (if is_some (position (is_from from) (drop (suc place) mail)) then senders else without from senders)
  taken_mailbox senders is = record {
    known = known_left is.known;
    waiting = senders_left senders (is_some (position (is_from from) (drop (suc place) mail))) is (messages_wait (drop (suc place) mail) from (position (is_from from) (drop (suc place) mail)) refl);
  }

-- Who is among the senders

has_node-missing : (p : ℕ → Bool) (x : ℕ) (xs : List ℕ) → p x ≡ false → has_node x (filter p xs) ≡ false
has_node-missing p x [] e = refl
has_node-missing p x (y ∷ ys) e = elim (cases_Bool (p y)) [
  | inl here ↦ rw (here, ne_eqb y x (λ same. absurd (false≢true (sym e ∙ ap p (sym same) ∙ here)))) (has_node-missing p x ys e)
  | inr other ↦ rw other (has_node-missing p x ys e)
]

pub sender_waits : (inbox : Inbox) (from : ℕ) → has_node from (senders_in inbox) ≡ not (is_empty (queue_from inbox from))
sender_waits inbox from = elim (cases_lt from (length inbox)) [
  | inl l ↦ has_node-range (λ i. not (is_empty (queue_from inbox i))) from 0 (length inbox) (omega arith) (omega arith)
  | inr l ↦
      let none : not (is_empty (queue_from inbox from)) ≡ false = ap (λ queue. not (is_empty queue)) (get_or_past inbox from [] l) in
      has_node-missing (λ i. not (is_empty (queue_from inbox i))) from (range_with_len 0 (length inbox)) none ∙ sym none
]
