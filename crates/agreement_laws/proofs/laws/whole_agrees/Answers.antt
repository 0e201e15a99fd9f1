use Rattle.agreement_laws.proofs.Following.{whole_agrees}
use Rattle.agreement_laws.proofs.laws.whole_agrees.Goals as goal

pub returns : goal.returns
returns c = whole_agrees
