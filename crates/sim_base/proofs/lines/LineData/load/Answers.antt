-- The number that is read is that of the bytes by their places.
use Rattle.std.proofs.Common.{◌-◌, ◌∙◌, arith}
use Rattle.sim_base.proofs.LoadedBytes.{read-loaded}
use Rattle.sim_base.proofs.lines.LineData.load.Goals as goal

pub returns-clause-value : goal.returns-clause-value
returns-clause-value c = c.number_in.ensures.value ∙ read-loaded c.args.offset c.args.size (64 - c.args.offset) c.args.self.now.bytes (omega arith)
