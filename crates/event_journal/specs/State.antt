-- The state of a machine of numbered nodes between its events. This simulator's own.
use Rattle.std.specs.Prelude.{ℕ, ◌+◌, ◌==◌, ◌++◌, Bool, true, false, List, [], ◌∷◌, map, filter, if◌then◌else◌}
use Rattle.event_journal.specs.Rules.{Change}

-- each node; the messages that wait from one node to another, the first sent first; and how many events each node made
pub record State (N M : Type 0) : Type 0 where
  pub node : ℕ → N
  pub queue : ℕ → ℕ → List M
  pub made : ℕ → ℕ

-- whether a list has nothing in it
abbrev pub is_empty : {A : Type 0} → List A → Bool
is_empty [] = true
is_empty (x ∷ xs) = false

-- a function with another value at one number
abbrev pub put : {A : Type 0} → (ℕ → A) → ℕ → A → ℕ → A
put f k x i = if i == k then x else f i

-- those messages of a list that are for one node, in order
abbrev pub messages_to : {M : Type 0} → ℕ → List (ℕ × M) → List M
messages_to node sent = map (λ message. message.1) (filter (λ message. message.0 == node) sent)

-- the state after a node made an event: the node is new, and its messages join the ends of their lists
abbrev pub changed : {N M : Type 0} → State N M → ℕ → Change N M → State N M
changed s k change = record {
  node = put s.node k change.node;
  queue = λ from to. if from == k then s.queue from to ++ messages_to to change.sent else s.queue from to;
  made = put s.made k (s.made k + 1);
}

-- a state with another list of messages from one node to another
abbrev pub with_queue : {N M : Type 0} → State N M → ℕ → ℕ → List M → State N M
with_queue s i k messages = record {
  node = s.node;
  queue = λ from to. if from == i then (if to == k then messages else s.queue from to) else s.queue from to;
  made = s.made;
}

-- the state in which each node is as it begins, no message waits and no event was made
abbrev pub start : {N M : Type 0} → (ℕ → N) → State N M
start first = record {
  node = first;
  queue = λ from to. [];
  made = λ node. 0;
}
