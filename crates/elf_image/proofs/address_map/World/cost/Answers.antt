use Rattle.std.proofs.Common.{◌≡◌, slice_index_or, refl}
use Rattle.sim_base.specs.declared.kinds.CostClass.{CostClass}
use Rattle.sim_base.specs.declared.kinds.CostClass.TheVariants.{Alu, Mul, Div, Mem, Amo, Call}
use Rattle.sim_base.specs.declared.settings.Config.{Config}
use Rattle.mesh_model.specs.Cost.{cost_of}
use Rattle.elf_image.specs.Costs.{class_place, costs_of}
use Rattle.elf_image.proofs.address_map.World.cost.Goals as goal

-- the table has the cost of a class at its place
listed_cost : (c : Config) (class : CostClass) → slice_index_or (costs_of c) (class_place class) 0 ≡ cost_of c class
unfolding costs_of
listed_cost c Alu = refl
listed_cost c Mul = refl
listed_cost c Div = refl
listed_cost c Mem = refl
listed_cost c Amo = refl
listed_cost c Call = refl

pub returns : goal.returns
returns c = rw (← c.self.view_is, c.self.invariant.table, c.class_place.ensures.value) (listed_cost c.self.inside.config c.args.class)
