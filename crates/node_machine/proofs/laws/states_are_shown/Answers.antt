use Rattle.node_machine.proofs.laws.states_are_shown.Goals as goal
use Rattle.node_machine.proofs.StartLemmas as lemmas

pub returns-clause-some : goal.returns-clause-some
returns-clause-some c = lemmas.some_is_shown

pub returns-clause-start : goal.returns-clause-start
returns-clause-start c = lemmas.start_is_shown
