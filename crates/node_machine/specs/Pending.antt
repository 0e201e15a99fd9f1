-- What is pending in a machine: the messages that wait for each node, by their senders, and which nodes can step; and so
-- which nodes can act. This simulator's own.
use Rattle.std.specs.Prelude.{ℕ, ◌≡◌, ◌<◌, ◌||◌, not, Bool, false, List, [], ◌∷◌, ◌++◌, length, filter, slice_index_or, slice_set, replicate, Option, Some, None}
use Rattle.std.specs.List.{range_with_len}
use Rattle.wire_msg.specs.declared.messages.Msg.{Msg}
use Rattle.event_journal.specs.State.{is_empty}

-- the messages that wait for one node: a list for each sender, the first sent first
abbrev pub Inbox : Type 0
Inbox = List (List Msg)

abbrev pub queue_from : Inbox → ℕ → List Msg
queue_from inbox from = slice_index_or inbox from []

-- the senders from whom a message waits, ascending
abbrev pub senders_in : Inbox → List ℕ
senders_in inbox = filter (λ from. not (is_empty (queue_from inbox from))) (range_with_len 0 (length inbox))

-- an inbox with another list of messages from one sender
abbrev pub with_queue_from : Inbox → ℕ → List Msg → Inbox
with_queue_from inbox from messages = slice_set inbox from messages

-- for each node its inbox, and whether it can step
pub record PendingData : Type 0 where
  pub inboxes : List Inbox
  pub steps : List Bool

abbrev pub inbox_of : List Inbox → ℕ → Inbox
inbox_of inboxes node = slice_index_or inboxes node []

-- nothing is pending at so many nodes
abbrev pub nothing_pending : ℕ → PendingData
nothing_pending count = record { inboxes = replicate count (replicate count []); steps = replicate count false }

-- the messages that wait from one node to another
abbrev pub queue_in : List Inbox → ℕ → ℕ → List Msg
queue_in inboxes from to = queue_from (inbox_of inboxes to) from

-- whether a node can act: it can step, or a message waits for it
abbrev pub can_act_in : PendingData → ℕ → Bool
can_act_in pending node = slice_index_or pending.steps node false || not (is_empty (senders_in (inbox_of pending.inboxes node)))

-- the nodes that can act, ascending
abbrev pub acting_in : PendingData → List ℕ
acting_in pending = filter (can_act_in pending) (range_with_len 0 (length pending.inboxes))

-- the inboxes with one more message from one node to another
abbrev pub with_message : ℕ → ℕ → Msg → List Inbox → List Inbox
with_message from to msg inboxes =
    slice_set inboxes to (with_queue_from (inbox_of inboxes to) from (queue_in inboxes from to ++ msg ∷ []))

-- with several, each with its receiver, in order
abbrev pub with_messages : ℕ → List (ℕ × Msg) → List Inbox → List Inbox
with_messages from [] inboxes = inboxes
with_messages from (message ∷ messages) inboxes = with_messages from messages (with_message from message.0 message.1 inboxes)

-- what is taken from a list of messages, and what stays
abbrev pub first_of : List Msg → Option Msg
first_of [] = None
first_of (msg ∷ rest) = Some msg

abbrev pub rest_of : List Msg → List Msg
rest_of [] = []
rest_of (msg ∷ rest) = rest

-- the inboxes with another list of messages from one node to another
abbrev pub with_rest : ℕ → ℕ → List Msg → List Inbox → List Inbox
with_rest from to messages inboxes = slice_set inboxes to (with_queue_from (inbox_of inboxes to) from messages)

-- each node of so many has an inbox with a list for each of them
pub record AreInboxes (count : ℕ) (inboxes : List Inbox) : Type 0 where
  pub each_node : length inboxes ≡ count
  pub each_sender : (node : ℕ) → node < count → length (inbox_of inboxes node) ≡ count
