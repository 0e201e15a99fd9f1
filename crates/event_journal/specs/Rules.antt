-- What a machine of numbered nodes is: a record of functions, over any type of node and of message. This simulator's
-- own.
use Rattle.std.specs.Prelude.{ℕ, Bool, List}

-- what an event makes: the new node, and the messages that it sends, each with its receiver's number, in order
pub record Change (N M : Type 0) : Type 0 where
  pub node : N
  pub sent : List (ℕ × M)

-- a machine's rules: how many events each node may make; whether a node can make a step of its own; what a step makes
-- of a node that has this number; and what a message from a sender makes of it
pub record Rules (N M : Type 0) : Type 0 where
  pub room : ℕ
  pub can_step : N → Bool
  pub step : ℕ → N → Change N M
  pub deliver : ℕ → N → ℕ → M → Change N M
