-- The law is a lemma.
use Rattle.sim_top.proofs.LawLemmas as lemmas
use Rattle.sim_top.proofs.laws.absent_is_read_fault.Goals as goal

pub returns : goal.returns
returns c = lemmas.absent_is_read_fault
