-- The law is a lemma.
use Rattle.sim_top.proofs.CompleteLemmas as lemmas
use Rattle.sim_top.proofs.laws.accepted_is_completed.Goals as goal

pub returns : goal.returns
returns c = lemmas.complete
