use Rattle.control_server.proofs.Ending.{end_stays}
use Rattle.control_server.proofs.laws.end_stays.Goals as goal

pub returns : goal.returns
returns c = end_stays
