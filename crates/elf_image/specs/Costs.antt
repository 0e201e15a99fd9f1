-- The costs of the classes of instructions as a table, which the world keeps beside its settings. For the contracts
-- of private functions and the world's invariant alone: no clause of a public function needs this.
use Rattle.std.specs.Prelude.{ℕ, List, [], ◌∷◌}
use Rattle.sim_base.specs.declared.kinds.CostClass.{CostClass}
use Rattle.sim_base.specs.declared.kinds.CostClass.TheVariants.{Alu, Mul, Div, Mem, Amo, Call}
use Rattle.sim_base.specs.declared.settings.Config.{Config}
use Rattle.mesh_model.specs.Cost.{cost_of}

-- the place of a class in the table
abbrev pub class_place : CostClass → ℕ
class_place Alu = 0
class_place Mul = 1
class_place Div = 2
class_place Mem = 3
class_place Amo = 4
class_place Call = 5

-- what an instruction of each class costs, in cycles, by the classes' places
unfoldable pub costs_of : Config → List ℕ
costs_of c = cost_of c Alu ∷ cost_of c Mul ∷ cost_of c Div ∷ cost_of c Mem ∷ cost_of c Amo ∷ cost_of c Call ∷ []
