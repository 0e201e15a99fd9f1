use Rattle.tile_node.specs.Answers.{IsOf}
use Rattle.tile_cases.proofs.cases.run.Given as goal

abbrev pub invariant-loop : goal.invariant-loop
invariant-loop l = IsOf l.world l.node
