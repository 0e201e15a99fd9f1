use Rattle.tile_node.specs.Answers.{IsOf}
use Rattle.tile_cases.proofs.cases.play.Given as goal

abbrev pub invariant-loop-part : goal.invariant-loop-part
invariant-loop-part l = IsOf l.world l.node
