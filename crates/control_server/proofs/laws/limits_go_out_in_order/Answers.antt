use Rattle.control_server.proofs.Limits.{limits_go_out_in_order}
use Rattle.control_server.proofs.laws.limits_go_out_in_order.Goals as goal

pub returns : goal.returns
returns c = limits_go_out_in_order
