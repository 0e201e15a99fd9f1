-- The dearest step is at least as dear as any access.
use Rattle.std.proofs.Common.{◌≢◌, ◌*◌, ◌≤◌, refl, arith}
use Rattle.sim_base.specs.declared.settings.Config.{Config}
use Rattle.sim_base.specs.declared.kinds.CostClass.{CostClass}
use Rattle.sim_base.specs.declared.kinds.CostClass.TheVariants.{Alu, Mul, Div, Mem, Amo, Call}
use Rattle.sim_base.specs.Settings.{IsChecked}
use Rattle.mesh_model.specs.Mesh.{hops_between, diameter}
use Rattle.mesh_model.specs.Cost.{cost_of, dearest_instruction, dearest_step, CoversAccesses}
use Rattle.mesh_model.proofs.Bounds.{hops_near, way_bound}

dear_enough : (c : Config) (class : CostClass) → class ≢ Call → cost_of c class ≤ dearest_instruction c
dear_enough c Alu n = omega arith
dear_enough c Mul n = omega arith
dear_enough c Div n = omega arith
dear_enough c Mem n = omega arith
dear_enough c Amo n = omega arith
dear_enough c Call n = absurd (n refl)

pub covered : (c : Config) → IsChecked c → CoversAccesses c (dearest_step c)
covered c h = λ requester home remote class lr lh near n.
    let instruction : cost_of c class ≤ dearest_instruction c = dear_enough c class n in
    let request : 2 * hops_between c requester home * c.hop_cost ≤ 2 * diameter c * c.hop_cost =
    way_bound 2 (hops_between c requester home) (diameter c) c.hop_cost (hops_near c requester home h lr lh) in
    let recall : 2 * remote * c.hop_cost ≤ 2 * diameter c * c.hop_cost =
    way_bound 2 remote (diameter c) c.hop_cost near in
    omega arith
