use Rattle.std.proofs.Common.{◌≡◌}
use Rattle.flat_machine.specs.Run.{after}
use Rattle.flat_machine.proofs.runner.run.Given as goal

-- as many actions as turns were made
abbrev pub invariant-loop-made : goal.invariant-loop-made
invariant-loop-made l = l.flat ≡ after l.world l._made
