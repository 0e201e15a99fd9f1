-- What is true of sets of nodes, whichever they are.
use Rattle.std.specs.Prelude.{ℕ, ◌≡◌, ◌<◌, ◌==◌, Bool, true, false, List, filter}
use Rattle.std.specs.List.{range_with_len}
use Rattle.std.specs.Ordering.{nat_cmp}
use Rattle.std.specs.BTreeSet.{insert_key}
use Rattle.node_set.specs.NodeSet.{Ascends, with_node, without}

-- a set with one node more is what std's sets of numbers make of it
abbrev pub WithIsInsert : Type 0
WithIsInsert = (node : ℕ) (nodes : List ℕ) → with_node node nodes ≡ insert_key nat_cmp nodes node

-- with a node more or without one a set ascends
abbrev pub WithAscends : Type 0
WithAscends = (node : ℕ) (nodes : List ℕ) → Ascends nodes → Ascends (with_node node nodes)

abbrev pub WithoutAscends : Type 0
WithoutAscends = (node : ℕ) (nodes : List ℕ) → Ascends nodes → Ascends (without node nodes)

-- where one more of the numbers below a count passes a test, what passes is the set with that number
abbrev pub OneMorePasses : Type 0
OneMorePasses = (before after : ℕ → Bool) (node count : ℕ) → ((i : ℕ) → (i == node) ≡ false → after i ≡ before i) → after node ≡ true
    → node < count → filter after (range_with_len 0 count) ≡ with_node node (filter before (range_with_len 0 count))

-- where it no longer passes, what passes is the set without it
abbrev pub OneFewerPasses : Type 0
OneFewerPasses = (before after : ℕ → Bool) (node count : ℕ) → ((i : ℕ) → (i == node) ≡ false → after i ≡ before i) → after node ≡ false
    → filter after (range_with_len 0 count) ≡ without node (filter before (range_with_len 0 count))
