-- The parts are those at the first `=`.
use Rattle.std.proofs.Common.{sym, ◌∙◌}
use Rattle.sim_config.proofs.Cuts.{parts_at, parts_nowhere}
use Rattle.sim_config.proofs.rules.name_and_value.Goals as goal

pub returns-in-Some : goal.returns-in-Some
returns-in-Some c = parts_at c.args.text.now c.in-Some.at (sym c.in-Some.is ∙ c.equals_sign.ensures)

pub returns-in-None : goal.returns-in-None
returns-in-None c = parts_nowhere c.args.text.now (sym c.in-None.is ∙ c.equals_sign.ensures)
