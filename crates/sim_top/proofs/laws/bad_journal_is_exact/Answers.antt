-- The law is a lemma.
use Rattle.sim_top.proofs.LawLemmas as lemmas
use Rattle.sim_top.proofs.laws.bad_journal_is_exact.Goals as goal

pub returns : goal.returns
returns c = lemmas.bad_journal_is_exact
