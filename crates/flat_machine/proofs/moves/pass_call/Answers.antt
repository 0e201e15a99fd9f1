-- The register a0 is all that the code computes.
use Rattle.std.proofs.Common.{refl}
use Rattle.flat_machine.proofs.moves.pass_call.Goals as goal

pub returns : goal.returns
returns c = rw c.set.ensures.value refl
