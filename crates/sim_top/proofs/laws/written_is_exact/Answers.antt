-- The law is a lemma.
use Rattle.sim_top.proofs.LawLemmas as lemmas
use Rattle.sim_top.proofs.laws.written_is_exact.Goals as goal

pub returns : goal.returns
returns c = lemmas.written_is_exact
