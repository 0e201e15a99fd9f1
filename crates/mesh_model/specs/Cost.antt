-- What steps and messages cost, in cycles. This simulator's own.
use Rattle.std.specs.Prelude.{ℕ, ◌+◌, ◌*◌, ◌<◌, ◌≤◌, ◌≢◌, max}
use Rattle.sim_base.specs.declared.kinds.CostClass.{CostClass}
use Rattle.sim_base.specs.declared.kinds.CostClass.TheVariants.{Alu, Mul, Div, Mem, Amo, Call}
use Rattle.sim_base.specs.declared.settings.Config.{Config}
use Rattle.sim_base.specs.Numbering.{node_count}
use Rattle.sim_base.specs.Saturated.{saturated}
use Rattle.mesh_model.specs.Mesh.{hops_between, diameter}

-- what an instruction of a class costs
abbrev pub cost_of : Config → CostClass → ℕ
cost_of c Alu = c.alu_cost
cost_of c Mul = c.mul_cost
cost_of c Div = c.div_cost
cost_of c Mem = c.mem_cost
cost_of c Amo = c.amo_cost
cost_of c Call = c.call_cost

-- how long the home of a line takes to answer a request: the way there and back, the directory and the
-- memory, and the way there and back to the farthest node that has to give the line up, `remote` hops away
abbrev pub delay_of : Config → ℕ → ℕ → ℕ → ℕ
delay_of c requester home remote =
    saturated (2 * hops_between c requester home * c.hop_cost + c.directory_cost + c.memory_cost + 2 * remote * c.hop_cost)

-- the dearest instruction, calls aside
abbrev pub dearest_instruction : Config → ℕ
dearest_instruction c = max c.alu_cost (max c.mul_cost (max c.div_cost (max c.mem_cost c.amo_cost)))

-- the most that one step adds to a clock: an instruction whose line comes from corner to corner, twice, or a
-- call, or a thread's start
abbrev pub dearest_step : Config → ℕ
dearest_step c =
    max (dearest_instruction c + 4 * diameter c * c.hop_cost + c.directory_cost + c.memory_cost) (max c.call_cost c.spawn_cost)

-- a number of cycles that no access exceeds: no delay between nodes of the machine, where nobody who has to
-- give up the line is farther away than the mesh is wide, with the cost of the instruction that waited for it
abbrev pub CoversAccesses : Config → ℕ → Type 0
CoversAccesses c most =
    (requester home remote : ℕ) (class : CostClass) → requester < node_count c → home < node_count c → remote ≤ diameter c
    → class ≢ Call → delay_of c requester home remote + cost_of c class ≤ most
