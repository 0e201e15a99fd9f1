use Rattle.agreement_laws.proofs.ServersFollow.{control_step_follows}
use Rattle.agreement_laws.proofs.servers.control_step_follows.Goals as goal

pub returns : goal.returns
returns c = control_step_follows
