use Rattle.workload_gen.proofs.Coded.{one_workload}
use Rattle.workload_gen.proofs.generator.workload_is_one.Goals as goal

pub returns : goal.returns
returns c = one_workload
