-- A ready thread's instruction, and an answer that is taken.
use Rattle.std.proofs.Common.{sym, ap, ◌∙◌}
use Rattle.flat_machine.specs.Action.{conditional_rd}
use Rattle.flat_machine.specs.Inner.{action_by}
use Rattle.flat_machine.proofs.LegalLemmas.{goes_ready}
use Rattle.flat_machine.proofs.machine.legal_action_of.Goals as goal

pub returns-in-Ready : goal.returns-in-Ready
returns-in-Ready c =
    goes_ready c.args.world.now c.args.thread.now c.args.ended c.args.thread.now.status c.conditional_rd.result c.in-Ready.is
    (c.conditional_rd.ensures.value ∙ ap conditional_rd c.step_of-step.ensures.step) (sym c.is_some.ensures ∙ c.if-is_some.false)

pub returns-in-Answered : goal.returns-in-Answered
returns-in-Answered c = ap (action_by c.args.world.now c.args.thread.now c.args.ended) (sym c.in-Answered.is)
