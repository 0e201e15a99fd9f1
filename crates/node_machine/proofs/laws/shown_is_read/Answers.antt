use Rattle.node_machine.proofs.laws.shown_is_read.Goals as goal
use Rattle.node_machine.proofs.ShownLemmas as lemmas

pub returns : goal.returns
returns c = lemmas.shown_is_read
