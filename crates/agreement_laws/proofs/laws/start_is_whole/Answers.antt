use Rattle.agreement_laws.proofs.Following.{start_is_whole}
use Rattle.agreement_laws.proofs.laws.start_is_whole.Goals as goal

pub returns : goal.returns
returns c = start_is_whole
