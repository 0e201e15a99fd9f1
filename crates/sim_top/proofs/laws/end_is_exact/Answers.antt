-- The law is a lemma.
use Rattle.sim_top.proofs.EndLemmas as lemmas
use Rattle.sim_top.proofs.laws.end_is_exact.Goals as goal

pub returns : goal.returns
returns c = lemmas.end_is_exact
