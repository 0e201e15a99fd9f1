use Rattle.node_machine.proofs.PinnedLemmas.{steps_are_pinned}
use Rattle.node_machine.proofs.laws.steps_on_are_pinned.Goals as goal

pub returns : goal.returns
returns c = steps_are_pinned
