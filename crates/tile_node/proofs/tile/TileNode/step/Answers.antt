-- What was done at once is the step.
use Rattle.tile_node.proofs.Plans.{done_at_once, answers_at_once}
use Rattle.tile_node.proofs.tile.TileNode.step.Goals as goal

pub returns-in-Done-clause-answers : goal.returns-in-Done-clause-answers
returns-in-Done-clause-answers c =
    answers_at_once c.args.world.now _ _ c.self.view_is _ c.args.out.now.items (done_at_once c.args.world.now c.args.self.now c.execute_at_once.new.self c.config.result.now c.runs_freely.result
    c.execute_at_once.result c.config.ensures.value c.requires.fits c.runs_freely.ensures c.if-not-runs_freely.false c.in-Done.is c.execute_at_once.ensures.attempts).step c.if-self.false

pub returns-in-Done-clause-fits : goal.returns-in-Done-clause-fits
returns-in-Done-clause-fits c =
    (done_at_once c.args.world.now c.args.self.now c.execute_at_once.new.self c.config.result.now c.runs_freely.result
    c.execute_at_once.result c.config.ensures.value c.requires.fits c.runs_freely.ensures c.if-not-runs_freely.false c.in-Done.is c.execute_at_once.ensures.attempts).fits

pub returns-in-Done-clause-number : goal.returns-in-Done-clause-number
returns-in-Done-clause-number c =
    (done_at_once c.args.world.now c.args.self.now c.execute_at_once.new.self c.config.result.now c.runs_freely.result
    c.execute_at_once.result c.config.ensures.value c.requires.fits c.runs_freely.ensures c.if-not-runs_freely.false c.in-Done.is c.execute_at_once.ensures.attempts).number
