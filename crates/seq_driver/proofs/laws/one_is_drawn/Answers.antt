use Rattle.seq_driver.proofs.laws.one_is_drawn.Goals as goal
use Rattle.seq_driver.proofs.DrawLemmas as lemmas

pub returns : goal.returns
returns c = lemmas.one_is_drawn
