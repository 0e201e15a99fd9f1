-- The law is a lemma.
use Rattle.sim_top.proofs.LawLemmas as lemmas
use Rattle.sim_top.proofs.laws.told_files_leave_one_verdict.Goals as goal

pub returns : goal.returns
returns c = lemmas.one_verdict
