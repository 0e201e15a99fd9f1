-- The law is a lemma.
use Rattle.sim_top.proofs.LawLemmas as lemmas
use Rattle.sim_top.proofs.laws.read_fault_has_cause.Goals as goal

pub returns : goal.returns
returns c = lemmas.read_fault_has_cause
