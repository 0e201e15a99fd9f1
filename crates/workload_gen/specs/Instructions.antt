-- The statements of the workloads by the names of the RISC-V assembler: an instruction with its operands in the manual's
-- order, and the registers by their names in the calling convention.
use Rattle.std.specs.Prelude.{ℕ, ◌*◌, ◌-◌, ◌^◌, true, false}
use Rattle.rv_decode.specs.declared.instr.Instr.TheVariants.{Upper, Load, Store, Imm, Shift, Reg, Atomic, Ecall}
use Rattle.rv_decode.specs.declared.instr.Op.TheVariants.{Lui, Beq, Bne, Blt, Bge, Lw, Ld, Sb, Sw, Sd, Addi, Slti, Andi, Slli, Add, Srl, AmoAdd, AmoSwap}
use Rattle.workload_gen.specs.declared.assembly.Label.{Label}
use Rattle.workload_gen.specs.declared.assembly.Statement.{Statement}
use Rattle.workload_gen.specs.declared.assembly.Statement.TheVariants.{Plain, BranchTo}

abbrev pub x0 : ℕ
x0 = 0

abbrev pub t0 : ℕ
t0 = 5

abbrev pub t1 : ℕ
t1 = 6

abbrev pub t2 : ℕ
t2 = 7

abbrev pub s0 : ℕ
s0 = 8

abbrev pub s1 : ℕ
s1 = 9

abbrev pub a0 : ℕ
a0 = 10

abbrev pub a1 : ℕ
a1 = 11

abbrev pub a2 : ℕ
a2 = 12

abbrev pub a3 : ℕ
a3 = 13

abbrev pub a7 : ℕ
a7 = 17

abbrev pub s2 : ℕ
s2 = 18

abbrev pub s3 : ℕ
s3 = 19

abbrev pub s4 : ℕ
s4 = 20

abbrev pub s5 : ℕ
s5 = 21

abbrev pub s6 : ℕ
s6 = 22

abbrev pub t3 : ℕ
t3 = 28

abbrev pub t4 : ℕ
t4 = 29

-- a negative immediate, as a number modulo 2 ^ 64
abbrev pub minus : ℕ → ℕ
minus n = 2 ^ 64 - n

abbrev pub addi : ℕ → ℕ → ℕ → Statement
addi rd rs1 imm = Plain (Imm Addi rd rs1 imm)

-- load an immediate, of 12 bits
abbrev pub li : ℕ → ℕ → Statement
li rd value = addi rd x0 value

-- copy a register
abbrev pub mv : ℕ → ℕ → Statement
mv rd rs = addi rd rs 0

abbrev pub andi : ℕ → ℕ → ℕ → Statement
andi rd rs1 imm = Plain (Imm Andi rd rs1 imm)

abbrev pub slti : ℕ → ℕ → ℕ → Statement
slti rd rs1 imm = Plain (Imm Slti rd rs1 imm)

abbrev pub slli : ℕ → ℕ → ℕ → Statement
slli rd rs1 amount = Plain (Shift Slli rd rs1 amount)

-- the operand is the upper 20 bits
abbrev pub lui : ℕ → ℕ → Statement
lui rd upper = Plain (Upper Lui rd (upper * 4096))

abbrev pub add : ℕ → ℕ → ℕ → Statement
add rd rs1 rs2 = Plain (Reg Add rd rs1 rs2)

abbrev pub srl : ℕ → ℕ → ℕ → Statement
srl rd rs1 rs2 = Plain (Reg Srl rd rs1 rs2)

-- loads: what is loaded, the offset, and the register of the address
abbrev pub lw : ℕ → ℕ → ℕ → Statement
lw rd offset rs1 = Plain (Load Lw rd rs1 offset)

abbrev pub ld : ℕ → ℕ → ℕ → Statement
ld rd offset rs1 = Plain (Load Ld rd rs1 offset)

-- stores: what is stored, the offset, and the register of the address
abbrev pub sb : ℕ → ℕ → ℕ → Statement
sb rs2 offset rs1 = Plain (Store Sb rs1 rs2 offset)

abbrev pub sw : ℕ → ℕ → ℕ → Statement
sw rs2 offset rs1 = Plain (Store Sw rs1 rs2 offset)

abbrev pub sd : ℕ → ℕ → ℕ → Statement
sd rs2 offset rs1 = Plain (Store Sd rs1 rs2 offset)

-- atomics, without aq and rl: where the old value goes, the operand, and the register of the address
abbrev pub amoadd_w : ℕ → ℕ → ℕ → Statement
amoadd_w rd rs2 rs1 = Plain (Atomic AmoAdd false rd rs1 rs2 false false)

abbrev pub amoadd_d : ℕ → ℕ → ℕ → Statement
amoadd_d rd rs2 rs1 = Plain (Atomic AmoAdd true rd rs1 rs2 false false)

abbrev pub amoswap_w : ℕ → ℕ → ℕ → Statement
amoswap_w rd rs2 rs1 = Plain (Atomic AmoSwap false rd rs1 rs2 false false)

abbrev pub amoswap_d : ℕ → ℕ → ℕ → Statement
amoswap_d rd rs2 rs1 = Plain (Atomic AmoSwap true rd rs1 rs2 false false)

abbrev pub ecall : Statement
ecall = Plain Ecall

abbrev pub beq : ℕ → ℕ → Label → Statement
beq rs1 rs2 label = BranchTo Beq rs1 rs2 label

abbrev pub bne : ℕ → ℕ → Label → Statement
bne rs1 rs2 label = BranchTo Bne rs1 rs2 label

abbrev pub blt : ℕ → ℕ → Label → Statement
blt rs1 rs2 label = BranchTo Blt rs1 rs2 label

abbrev pub bge : ℕ → ℕ → Label → Statement
bge rs1 rs2 label = BranchTo Bge rs1 rs2 label
