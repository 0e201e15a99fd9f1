-- Where no setting is bad, all are in range.
use Rattle.std.proofs.Common.{sym}
use Rattle.sim_base.proofs.CheckedSettings.{in_range}
use Rattle.sim_base.proofs.settings.Config.check.Goals as goal

pub returns-in-None-clause-ranges : goal.returns-in-None-clause-ranges
returns-in-None-clause-ranges c = in_range c.args.self.now (sym c.in-None.ensures)
