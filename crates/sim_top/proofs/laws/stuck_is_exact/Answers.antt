-- The law is a lemma.
use Rattle.sim_top.proofs.LawLemmas as lemmas
use Rattle.sim_top.proofs.laws.stuck_is_exact.Goals as goal

pub returns : goal.returns
returns c = lemmas.stuck_is_exact
