-- For the private functions alone: the clauses of `encode` and `decodes_once` cite nothing of this file.
-- The codes by which the RISC-V ISA manual's listing of RV64IMA tells the instructions of one form apart. In each
-- table the last row is for names of other forms, which don't stand in a valid instruction of this form.
use Rattle.std.specs.Prelude.{ℕ, ◌<◌, ◌^◌}
use Rattle.rv_decode.specs.declared.instr.Op.{Op}
use Rattle.rv_decode.specs.declared.instr.Op.TheVariants.{Lui, Auipc, Beq, Bne, Blt, Bge, Bltu, Bgeu, Lb, Lh, Lw, Ld, Lbu, Lhu, Lwu, Sb, Sh, Sw, Sd, Addi, Slti, Sltiu, Xori, Ori, Andi, Addiw, Slli, Srli, Srai, Slliw, Srliw, Sraiw, Add, Sll, Slt, Sltu, Xor, Srl, Or, And, Sub, Sra, Mul, Mulh, Mulhsu, Mulhu, Div, Divu, Rem, Remu, Addw, Sllw, Srlw, Subw, Sraw, Mulw, Divw, Divuw, Remw, Remuw, AmoAdd, AmoSwap, Lr, Sc, AmoXor, AmoOr, AmoAnd, AmoMin, AmoMax, AmoMinu, AmoMaxu}
use Rattle.rv_encode.specs.declared.codes.Codes.{Codes}

-- LUI and AUIPC: the opcode
abbrev pub upper_code : Op → ℕ
upper_code Lui = 0b0110111
upper_code Auipc = 0b0010111
upper_code _ = 0

-- branches, opcode 1100011: funct3
abbrev pub branch_code : Op → ℕ
branch_code Beq = 0b000
branch_code Bne = 0b001
branch_code Blt = 0b100
branch_code Bge = 0b101
branch_code Bltu = 0b110
branch_code Bgeu = 0b111
branch_code _ = 0

-- loads, opcode 0000011: funct3
abbrev pub load_code : Op → ℕ
load_code Lb = 0b000
load_code Lh = 0b001
load_code Lw = 0b010
load_code Ld = 0b011
load_code Lbu = 0b100
load_code Lhu = 0b101
load_code Lwu = 0b110
load_code _ = 0

-- stores, opcode 0100011: funct3
abbrev pub store_code : Op → ℕ
store_code Sb = 0b000
store_code Sh = 0b001
store_code Sw = 0b010
store_code Sd = 0b011
store_code _ = 0

-- atomics, opcode 0101111: funct5
abbrev pub atomic_code : Op → ℕ
atomic_code AmoAdd = 0b00000
atomic_code AmoSwap = 0b00001
atomic_code Lr = 0b00010
atomic_code Sc = 0b00011
atomic_code AmoXor = 0b00100
atomic_code AmoOr = 0b01000
atomic_code AmoAnd = 0b01100
atomic_code AmoMin = 0b10000
atomic_code AmoMax = 0b10100
atomic_code AmoMinu = 0b11000
atomic_code AmoMaxu = 0b11100
atomic_code _ = 0

-- the opcode, funct3 and funct7; a form with no funct7 has 0 there
abbrev pub codes : ℕ → ℕ → ℕ → Codes
codes opcode funct3 funct7 = record { opcode = opcode; funct3 = funct3; funct7 = funct7 }

-- arithmetic with an immediate
abbrev pub immediate_codes : Op → Codes
immediate_codes Addi = codes 0b0010011 0b000 0b0000000
immediate_codes Slti = codes 0b0010011 0b010 0b0000000
immediate_codes Sltiu = codes 0b0010011 0b011 0b0000000
immediate_codes Xori = codes 0b0010011 0b100 0b0000000
immediate_codes Ori = codes 0b0010011 0b110 0b0000000
immediate_codes Andi = codes 0b0010011 0b111 0b0000000
immediate_codes Addiw = codes 0b0011011 0b000 0b0000000
immediate_codes _ = codes 0 0 0

-- shifts by a constant: the lowest bit of funct7 is left to the amount
abbrev pub shift_codes : Op → Codes
shift_codes Slli = codes 0b0010011 0b001 0b0000000
shift_codes Srli = codes 0b0010011 0b101 0b0000000
shift_codes Srai = codes 0b0010011 0b101 0b0100000
shift_codes Slliw = codes 0b0011011 0b001 0b0000000
shift_codes Srliw = codes 0b0011011 0b101 0b0000000
shift_codes Sraiw = codes 0b0011011 0b101 0b0100000
shift_codes _ = codes 0 0 0

-- arithmetic on two registers
abbrev pub register_codes : Op → Codes
register_codes Add = codes 0b0110011 0b000 0b0000000
register_codes Sll = codes 0b0110011 0b001 0b0000000
register_codes Slt = codes 0b0110011 0b010 0b0000000
register_codes Sltu = codes 0b0110011 0b011 0b0000000
register_codes Xor = codes 0b0110011 0b100 0b0000000
register_codes Srl = codes 0b0110011 0b101 0b0000000
register_codes Or = codes 0b0110011 0b110 0b0000000
register_codes And = codes 0b0110011 0b111 0b0000000
register_codes Sub = codes 0b0110011 0b000 0b0100000
register_codes Sra = codes 0b0110011 0b101 0b0100000
register_codes Mul = codes 0b0110011 0b000 0b0000001
register_codes Mulh = codes 0b0110011 0b001 0b0000001
register_codes Mulhsu = codes 0b0110011 0b010 0b0000001
register_codes Mulhu = codes 0b0110011 0b011 0b0000001
register_codes Div = codes 0b0110011 0b100 0b0000001
register_codes Divu = codes 0b0110011 0b101 0b0000001
register_codes Rem = codes 0b0110011 0b110 0b0000001
register_codes Remu = codes 0b0110011 0b111 0b0000001
register_codes Addw = codes 0b0111011 0b000 0b0000000
register_codes Sllw = codes 0b0111011 0b001 0b0000000
register_codes Srlw = codes 0b0111011 0b101 0b0000000
register_codes Subw = codes 0b0111011 0b000 0b0100000
register_codes Sraw = codes 0b0111011 0b101 0b0100000
register_codes Mulw = codes 0b0111011 0b000 0b0000001
register_codes Divw = codes 0b0111011 0b100 0b0000001
register_codes Divuw = codes 0b0111011 0b101 0b0000001
register_codes Remw = codes 0b0111011 0b110 0b0000001
register_codes Remuw = codes 0b0111011 0b111 0b0000001
register_codes _ = codes 0 0 0

-- codes that fit their fields
abbrev pub FitFields : Codes → Type 0
FitFields c = (c.opcode < 2 ^ 7) × (c.funct3 < 2 ^ 3) × (c.funct7 < 2 ^ 7)
