use Rattle.serving.proofs.Waits.{waits_for_whom_it_joins}
use Rattle.serving.proofs.laws.parking_waits_for_joined.Goals as goal

pub returns : goal.returns
returns c = waits_for_whom_it_joins
