use Rattle.std.proofs.Common.{◌∙◌, sym}
use Rattle.rv_hart.proofs.InstructionLemmas.{lent_step}
use Rattle.rv_hart.proofs.steps.next_step.Goals as goal

pub returns-in-Some-clause-step : goal.returns-in-Some-clause-step
returns-in-Some-clause-step c =
    c.instruction_step.ensures.step ∙ sym (lent_step c.args.world.now c.args.regs.now c.args.pc c.args.reservation c.args.thread c.in-Some.instr.now (sym c.in-Some.ensures.value))
