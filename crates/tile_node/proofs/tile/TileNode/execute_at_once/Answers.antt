-- What is done is the plan.
use Rattle.std.proofs.Common.{sym, ◌∙◌}
use Rattle.tile_node.proofs.Plans.{next_at_once, access_planned, access_done, access_asked}
use Rattle.tile_node.proofs.tile.TileNode.execute_at_once.Goals as goal

pub returns-in-Next-clause-attempts : goal.returns-in-Next-clause-attempts
returns-in-Next-clause-attempts c =
    next_at_once c.args.world.now _ _ c.self.view_is _ c.in-Some.listed.now c.instr.result.now _ _ _ _ c.class.result
    (sym c.in-Some.ensures.value) c.instr.ensures (sym c.effect-meaning.ensures.meaning ∙ c.in-Next.is) c.class.ensures c.cost-cost.ensures c.do_locally.ensures.tile

pub returns-then-access_at_once-clause-attempts : goal.returns-then-access_at_once-clause-attempts
returns-then-access_at_once-clause-attempts c =
    access_done c.args.world.now c.args.self.now c.access_at_once.new.self c.in-Access.access c.access_at_once.result
    (access_planned c.args.world.now _ c.args.self.now c.self.view_is c.in-Some.listed.now c.instr.result.now c.in-Access.access c.is_allowed.result
    (sym c.in-Some.ensures.value) c.instr.ensures (sym c.effect-meaning.ensures.meaning ∙ c.in-Access.is) c.is_allowed.ensures c.if-not-is_allowed.false)
    c.if-access_at_once.true c.access_at_once.ensures.does

pub returns-else-access_at_once-clause-attempts : goal.returns-else-access_at_once-clause-attempts
returns-else-access_at_once-clause-attempts c = (
  access_asked c.args.world.now c.args.self.now c.access_at_once.new.self c.in-Access.access c.access_at_once.result c.if-access_at_once.false c.access_at_once.ensures.does,
  access_planned c.args.world.now _ c.args.self.now c.self.view_is c.in-Some.listed.now c.instr.result.now c.in-Access.access c.is_allowed.result
      (sym c.in-Some.ensures.value) c.instr.ensures (sym c.effect-meaning.ensures.meaning ∙ c.in-Access.is) c.is_allowed.ensures c.if-not-is_allowed.false,
)
