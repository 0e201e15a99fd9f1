use Rattle.std.proofs.Common.{◌≡◌, ◌-◌, ◌≤◌, drop}
use Rattle.node_set.specs.Inner.{bits}
use Rattle.node_set.proofs.words.bit_at_place.Given as goal

abbrev pub invariant-loop-left : goal.invariant-loop-left
invariant-loop-left l = (l.left ≤ l.place) × (bits 64 0 l.rest ≡ drop (l.place - l.left) (bits 64 0 l.word))

abbrev pub decreases-loop-left : goal.decreases-loop-left
decreases-loop-left l = l.left
