-- For the code's own representation of what is pending alone: no clause of a public function needs this. A mailbox holds
-- the messages of all senders, in the order in which they came.
use Rattle.std.specs.Prelude.{ℕ, ◌≡◌, ◌<◌, ◌==◌, Bool, List, [], All, length, map, filter}
use Rattle.std.specs.List.{range_with_len}
use Rattle.wire_msg.specs.declared.messages.Msg.{Msg}
use Rattle.node_machine.specs.declared.pending.Mail.{Mail}
use Rattle.node_machine.specs.Pending.{Inbox, PendingData, senders_in, acting_in}

-- whether a message came from a sender
abbrev pub is_from : ℕ → Mail → Bool
is_from from mail = mail.from == from

-- the messages from a sender, in order
abbrev pub messages_from : List Mail → ℕ → List Msg
messages_from mail from = map (λ one. one.msg) (filter (is_from from) mail)

-- the list of each of so many senders
abbrev pub lists_from : List Mail → ℕ → Inbox
lists_from mail count = map (messages_from mail) (range_with_len 0 count)

-- each message is from one of so many senders, and these are those from whom one waits
pub record IsMailbox (count : ℕ) (mail : List Mail) (senders : List ℕ) : Type 0 where
  pub known : All (λ one. one.from < count) mail
  pub waiting : senders ≡ senders_in (lists_from mail count)

-- what is noted beside what is pending: the nodes that can act; a node's steps for each inbox; and an empty set of senders
pub record IsNoted (pending : PendingData) (noted nobody : List ℕ) : Type 0 where
  pub acting : noted ≡ acting_in pending
  pub each_node : length pending.steps ≡ length pending.inboxes
  pub none : nobody ≡ []
