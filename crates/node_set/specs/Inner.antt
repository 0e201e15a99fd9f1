-- What only this crate's own code cites: how a set of nodes is held, as words of 64 bits. Bit i of word k is for node
-- 64 * k + i.
use Rattle.std.specs.Prelude.{ℕ, zero, suc, ◌+◌, ◌/◌, ◌%◌, ◌==◌, List, [], ◌∷◌, ◌++◌, if◌then◌else◌}

-- the numbers of the bits of a word that are set, of so many bits, where the lowest has this number
unfoldable pub bits : ℕ → ℕ → ℕ → List ℕ
bits zero first word = []
bits (suc count) first word = if word % 2 == 1 then first ∷ bits count (first + 1) (word / 2) else bits count (first + 1) (word / 2)

-- the nodes of these words, where the first word's lowest bit is for this node
abbrev pub nodes_from : ℕ → List ℕ → List ℕ
nodes_from first [] = []
nodes_from first (word ∷ words) = bits 64 first word ++ nodes_from (first + 64) words
