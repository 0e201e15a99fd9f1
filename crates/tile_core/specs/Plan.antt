-- What a core's next instruction asks of its tile. This simulator's own; the step itself is the one of every hart.
use Rattle.std.specs.Prelude.{ℕ, true, false}
use Rattle.sim_base.specs.declared.kinds.CostClass.TheVariants.{Call as CallClass}
use Rattle.elf_image.specs.Layout.{Setup}
use Rattle.mesh_model.specs.Cost.{cost_of}
use Rattle.rv_hart.specs.declared.steps.Step.{Step}
use Rattle.rv_hart.specs.declared.steps.Step.TheVariants.{Next, Access as AccessStep, ScFails as ScFailsStep, Answer, Ask, Write as WriteStep, Exit as ExitStep, Trap as TrapStep}
use Rattle.rv_hart.specs.Step.{next_step}
use Rattle.rv_hart.specs.Start.{next_pc}
use Rattle.tile_core.specs.declared.cores.TileCore.{TileCore}
use Rattle.tile_core.specs.declared.plans.Plan.{Plan}
use Rattle.tile_core.specs.declared.plans.Plan.TheVariants.{Local, Access, ScFails, Send, Exit, Write, Trap}

-- what a step is to the tile, at this pc: what needs nothing but the core is local, with its cost in cycles
abbrev pub plan_by : Setup → ℕ → Step → Plan
plan_by w pc (Next class rd value next) = Local rd value next (cost_of w.config class) false
plan_by w pc (AccessStep access) = Access access
plan_by w pc (ScFailsStep rd) = ScFails rd
plan_by w pc (Answer value) = Local 10 value (next_pc pc) (cost_of w.config CallClass) true
plan_by w pc (Ask call) = Send call
plan_by w pc (WriteStep addr len) = Write addr len
plan_by w pc (ExitStep code) = Exit code
plan_by w pc (TrapStep cause) = Trap cause

-- the plan of the next instruction of the thread that runs
abbrev pub plan_of : Setup → TileCore → Plan
plan_of w core = plan_by w core.pc (next_step w core.regs core.pc core.reservation core.thread)
