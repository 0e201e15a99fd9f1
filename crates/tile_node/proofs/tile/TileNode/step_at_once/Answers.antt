-- What an instruction does at once is the step.
use Rattle.tile_node.proofs.Plans.{attempted, made_at_once}
use Rattle.tile_node.proofs.tile.TileNode.step_at_once.Goals as goal

pub returns-clause-step : goal.returns-clause-step
returns-clause-step c =
    (made_at_once c.args.world.now c.args.self.now c.execute_at_once.new.self c.config.result.now c.runs_freely.result c.is_done.result c.config.ensures.value c.requires c.runs_freely.ensures
    c.if-not-runs_freely.false (rw c.is_done.ensures (attempted c.args.world.now c.execute_at_once.result c.args.self.now c.execute_at_once.new.self c.execute_at_once.ensures.attempts))).step

pub returns-clause-again : goal.returns-clause-again
returns-clause-again c =
    (made_at_once c.args.world.now c.args.self.now c.execute_at_once.new.self c.config.result.now c.runs_freely.result c.is_done.result c.config.ensures.value c.requires c.runs_freely.ensures
    c.if-not-runs_freely.false (rw c.is_done.ensures (attempted c.args.world.now c.execute_at_once.result c.args.self.now c.execute_at_once.new.self c.execute_at_once.ensures.attempts))).again

pub returns-clause-fits : goal.returns-clause-fits
returns-clause-fits c =
    (made_at_once c.args.world.now c.args.self.now c.execute_at_once.new.self c.config.result.now c.runs_freely.result c.is_done.result c.config.ensures.value c.requires c.runs_freely.ensures
    c.if-not-runs_freely.false (rw c.is_done.ensures (attempted c.args.world.now c.execute_at_once.result c.args.self.now c.execute_at_once.new.self c.execute_at_once.ensures.attempts))).fits

pub returns-clause-number : goal.returns-clause-number
returns-clause-number c =
    (made_at_once c.args.world.now c.args.self.now c.execute_at_once.new.self c.config.result.now c.runs_freely.result c.is_done.result c.config.ensures.value c.requires c.runs_freely.ensures
    c.if-not-runs_freely.false (rw c.is_done.ensures (attempted c.args.world.now c.execute_at_once.result c.args.self.now c.execute_at_once.new.self c.execute_at_once.ensures.attempts))).number
