-- The class of each instruction: those of one class cost the same number of cycles. This simulator's own.
use Rattle.rv_decode.specs.declared.instr.Instr.{Instr}
use Rattle.rv_decode.specs.declared.instr.Instr.TheVariants.{Load, Store, Reg, Atomic, Ecall}
use Rattle.rv_decode.specs.declared.instr.Op.{Op}
use Rattle.rv_decode.specs.declared.instr.Op.TheVariants.{Mul, Mulh, Mulhsu, Mulhu, Mulw, Div, Divu, Rem, Remu, Divw, Divuw, Remw, Remuw}
use Rattle.sim_base.specs.declared.kinds.CostClass.{CostClass}
use Rattle.sim_base.specs.declared.kinds.CostClass.TheVariants.{Alu, Mul as MulClass, Div as DivClass, Mem, Amo, Call}

-- the class of an instruction on two registers
abbrev pub register_class : Op → CostClass
register_class Mul = MulClass
register_class Mulh = MulClass
register_class Mulhsu = MulClass
register_class Mulhu = MulClass
register_class Mulw = MulClass
register_class Div = DivClass
register_class Divu = DivClass
register_class Rem = DivClass
register_class Remu = DivClass
register_class Divw = DivClass
register_class Divuw = DivClass
register_class Remw = DivClass
register_class Remuw = DivClass
register_class _ = Alu

-- the class of an instruction
abbrev pub class_of : Instr → CostClass
class_of (Load op rd rs1 imm) = Mem
class_of (Store op rs1 rs2 imm) = Mem
class_of (Reg op rd rs1 rs2) = register_class op
class_of (Atomic op wide rd rs1 rs2 aq rl) = Amo
class_of Ecall = Call
class_of _ = Alu
