-- Sets of nodes, as ascending lists of their numbers. This simulator's own.
use Rattle.std.specs.Prelude.{ℕ, ◌<◌, ◌==◌, nat_lt, not, Bool, List, [], ◌∷◌, filter, All, if◌then◌else◌}
use Rattle.std.specs.List.{list_any, AllByRecursion}

-- each number is below those after it
abbrev pub Ascends : List ℕ → Type 0
Ascends [] = Unit {0}
Ascends (x ∷ xs) = AllByRecursion (λ y. x < y) xs × Ascends xs

-- whether a node is in a set
abbrev pub has_node : ℕ → List ℕ → Bool
has_node x nodes = list_any (λ y. y == x) nodes

-- a set with one node more, at its place in the order
abbrev pub with_node : ℕ → List ℕ → List ℕ
with_node x [] = x ∷ []
with_node x (y ∷ ys) = if nat_lt x y then x ∷ y ∷ ys else (if x == y then y ∷ ys else y ∷ with_node x ys)

-- a set without a node
abbrev pub without : ℕ → List ℕ → List ℕ
without x nodes = filter (λ y. not (y == x)) nodes

-- what each set of nodes is: an ascending list of numbers below 256
pub record IsNodeSet (nodes : List ℕ) : Type 0 where
  pub ascends : Ascends nodes
  pub below : All (λ node. node < 256) nodes
