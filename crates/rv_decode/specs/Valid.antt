-- Which values of `Instr` are instructions of RV64IMA: its name belongs to its form, registers are below 32, and
-- immediates and amounts are such as the form can give. From the RISC-V ISA manual's formats.
use Rattle.std.specs.Prelude.{ℕ, Bool, true, false, IsTrue, ◌≡◌, ◌<◌, ◌≤◌, ◌-◌, ◌^◌, ◌%◌, ◌⊎◌}
use Rattle.rv_decode.specs.declared.instr.Instr.{Instr}
use Rattle.rv_decode.specs.declared.instr.Instr.TheVariants.{Upper, Jal, Jalr, Branch, Load, Store, Imm, Shift, Reg, Atomic, Fence, Ecall, Ebreak}
use Rattle.rv_decode.specs.declared.instr.Op.{Op}
use Rattle.rv_decode.specs.declared.instr.Op.TheVariants.{Lui, Auipc, Beq, Bne, Blt, Bge, Bltu, Bgeu, Lb, Lh, Lw, Ld, Lbu, Lhu, Lwu, Sb, Sh, Sw, Sd, Addi, Slti, Sltiu, Xori, Ori, Andi, Addiw, Slli, Srli, Srai, Slliw, Srliw, Sraiw, Add, Sll, Slt, Sltu, Xor, Srl, Or, And, Sub, Sra, Mul, Mulh, Mulhsu, Mulhu, Div, Divu, Rem, Remu, Addw, Sllw, Srlw, Subw, Sraw, Mulw, Divw, Divuw, Remw, Remuw, AmoAdd, AmoSwap, Lr, Sc, AmoXor, AmoOr, AmoAnd, AmoMin, AmoMax, AmoMinu, AmoMaxu}

-- which names each form has
abbrev pub is_upper : Op → Bool
is_upper Lui = true
is_upper Auipc = true
is_upper _ = false

abbrev pub is_branch : Op → Bool
is_branch Beq = true
is_branch Bne = true
is_branch Blt = true
is_branch Bge = true
is_branch Bltu = true
is_branch Bgeu = true
is_branch _ = false

abbrev pub is_load : Op → Bool
is_load Lb = true
is_load Lh = true
is_load Lw = true
is_load Ld = true
is_load Lbu = true
is_load Lhu = true
is_load Lwu = true
is_load _ = false

abbrev pub is_store : Op → Bool
is_store Sb = true
is_store Sh = true
is_store Sw = true
is_store Sd = true
is_store _ = false

abbrev pub is_immediate : Op → Bool
is_immediate Addi = true
is_immediate Slti = true
is_immediate Sltiu = true
is_immediate Xori = true
is_immediate Ori = true
is_immediate Andi = true
is_immediate Addiw = true
is_immediate _ = false

-- the shifts by a constant: amounts are below 64, and below 32 in the W forms
abbrev pub IsAmount : Op → ℕ → Type 0
IsAmount Slli amount = amount < 64
IsAmount Srli amount = amount < 64
IsAmount Srai amount = amount < 64
IsAmount Slliw amount = amount < 32
IsAmount Srliw amount = amount < 32
IsAmount Sraiw amount = amount < 32
IsAmount _ amount = ⊥

abbrev pub is_register : Op → Bool
is_register Add = true
is_register Sll = true
is_register Slt = true
is_register Sltu = true
is_register Xor = true
is_register Srl = true
is_register Or = true
is_register And = true
is_register Sub = true
is_register Sra = true
is_register Mul = true
is_register Mulh = true
is_register Mulhsu = true
is_register Mulhu = true
is_register Div = true
is_register Divu = true
is_register Rem = true
is_register Remu = true
is_register Addw = true
is_register Sllw = true
is_register Srlw = true
is_register Subw = true
is_register Sraw = true
is_register Mulw = true
is_register Divw = true
is_register Divuw = true
is_register Remw = true
is_register Remuw = true
is_register _ = false

abbrev pub is_atomic : Op → Bool
is_atomic AmoAdd = true
is_atomic AmoSwap = true
is_atomic Lr = true
is_atomic Sc = true
is_atomic AmoXor = true
is_atomic AmoOr = true
is_atomic AmoAnd = true
is_atomic AmoMin = true
is_atomic AmoMax = true
is_atomic AmoMinu = true
is_atomic AmoMaxu = true
is_atomic _ = false

-- a load-reserved has no second source: its register's number is zero
abbrev pub IsSource : Op → ℕ → Type 0
IsSource Lr rs2 = rs2 ≡ 0
IsSource _ rs2 = rs2 < 32

-- a signed number of so many bits, seen modulo 2 ^ 64: below half their range, or at most that far below 2 ^ 64
abbrev pub IsSigned : ℕ → ℕ → Type 0
IsSigned bits n = (n < 2 ^ (bits - 1)) ⊎ ((2 ^ 64 - 2 ^ (bits - 1) ≤ n) × (n < 2 ^ 64))

-- a value that is an instruction
abbrev pub IsValid : Instr → Type 0
IsValid (Upper op rd imm) = IsTrue (is_upper op) × (rd < 32) × IsSigned 32 imm × (imm % 2 ^ 12 ≡ 0)
IsValid (Jal rd imm) = (rd < 32) × IsSigned 21 imm × (imm % 2 ≡ 0)
IsValid (Jalr rd rs1 imm) = (rd < 32) × (rs1 < 32) × IsSigned 12 imm
IsValid (Branch op rs1 rs2 imm) = IsTrue (is_branch op) × (rs1 < 32) × (rs2 < 32) × IsSigned 13 imm × (imm % 2 ≡ 0)
IsValid (Load op rd rs1 imm) = IsTrue (is_load op) × (rd < 32) × (rs1 < 32) × IsSigned 12 imm
IsValid (Store op rs1 rs2 imm) = IsTrue (is_store op) × (rs1 < 32) × (rs2 < 32) × IsSigned 12 imm
IsValid (Imm op rd rs1 imm) = IsTrue (is_immediate op) × (rd < 32) × (rs1 < 32) × IsSigned 12 imm
IsValid (Shift op rd rs1 amount) = IsAmount op amount × (rd < 32) × (rs1 < 32)
IsValid (Reg op rd rs1 rs2) = IsTrue (is_register op) × (rd < 32) × (rs1 < 32) × (rs2 < 32)
IsValid (Atomic op wide rd rs1 rs2 aq rl) = IsTrue (is_atomic op) × (rd < 32) × (rs1 < 32) × IsSource op rs2
IsValid (Fence rd rs1 imm) = (rd < 32) × (rs1 < 32) × IsSigned 12 imm
IsValid Ecall = Unit {0}
IsValid Ebreak = Unit {0}
