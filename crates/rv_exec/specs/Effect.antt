-- What each instruction does to the registers and the pc. From the RISC-V ISA manual, RV32I, RV64I, and
-- the extensions M and A.
use Rattle.std.specs.Prelude.{ℕ, ◌%◌, ◌^◌, ◌<◌, Bool, false, not, List, nat_lt, ◌==◌, if◌then◌else◌, bit_and, bit_or, bit_xor}
use Rattle.rv_decode.specs.declared.instr.Instr.{Instr}
use Rattle.rv_decode.specs.declared.instr.Instr.TheVariants.{Upper, Jal, Jalr, Branch, Load, Store, Imm, Shift, Reg, Atomic, Fence, Ecall, Ebreak}
use Rattle.rv_decode.specs.declared.instr.Op.{Op}
use Rattle.rv_decode.specs.declared.instr.Op.TheVariants.{Lui, Auipc, Beq, Bne, Blt, Bge, Bltu, Bgeu, Addi, Slti, Sltiu, Xori, Ori, Andi, Addiw, Slli, Srli, Srai, Slliw, Srliw, Sraiw, Add, Sll, Slt, Sltu, Xor, Srl, Or, And, Sub, Sra, Mul, Mulh, Mulhsu, Mulhu, Div, Divu, Rem, Remu, Addw, Sllw, Srlw, Subw, Sraw, Mulw, Divw, Divuw, Remw, Remuw, Lr}
use Rattle.sim_base.specs.declared.ends.Cause.{Cause}
use Rattle.sim_base.specs.declared.ends.Cause.TheVariants.{InstrMisaligned, LoadMisaligned, StoreMisaligned, Breakpoint}
use Rattle.rv_exec.specs.declared.meaning.Meaning.{Meaning}
use Rattle.rv_exec.specs.declared.meaning.Meaning.TheVariants.{Next, Access, Call, Trap}
use Rattle.rv_exec.specs.Registers.{register}
use Rattle.rv_exec.specs.Access.{Asked, IsAccess, load_of, store_of, atomic_of}
use Rattle.rv_exec.specs.Arithmetic.{wrapping_sum, wrapping_difference, signed_lt, truth, even_address, left_shift, logical_shift, arithmetic_shift, word_sum, word_difference, word_left_shift, word_logical_shift, word_arithmetic_shift, wrapping_product, word_product, signed_high_product, mixed_high_product, unsigned_high_product, signed_quotient, unsigned_quotient, signed_remainder, unsigned_remainder, on_words}
use Rattle.std.specs.Int.{w32, w64}

-- what LUI and AUIPC write to rd. In each table below the last row is for names of other forms, which don't
-- stand in a valid instruction of this form
abbrev pub upper_value : Op → ℕ → ℕ → ℕ
upper_value Lui imm pc = imm
upper_value Auipc imm pc = wrapping_sum pc imm
upper_value _ imm pc = 0

-- whether a branch is taken, by what rs1 and rs2 hold
abbrev pub is_taken : Op → ℕ → ℕ → Bool
is_taken Beq a b = a == b
is_taken Bne a b = not (a == b)
is_taken Blt a b = signed_lt a b
is_taken Bge a b = not (signed_lt a b)
is_taken Bltu a b = nat_lt a b
is_taken Bgeu a b = not (nat_lt a b)
is_taken _ a b = false

-- what an instruction on rs1 and an immediate writes to rd
abbrev pub immediate_value : Op → ℕ → ℕ → ℕ
immediate_value Addi a imm = wrapping_sum a imm
immediate_value Slti a imm = truth (signed_lt a imm)
immediate_value Sltiu a imm = truth (nat_lt a imm)
immediate_value Xori a imm = bit_xor a imm
immediate_value Ori a imm = bit_or a imm
immediate_value Andi a imm = bit_and a imm
immediate_value Addiw a imm = word_sum a imm
immediate_value _ a imm = 0

-- what a shift of rs1 by a constant writes to rd
abbrev pub shift_value : Op → ℕ → ℕ → ℕ
shift_value Slli a amount = left_shift a amount
shift_value Srli a amount = logical_shift a amount
shift_value Srai a amount = arithmetic_shift a amount
shift_value Slliw a amount = word_left_shift a amount
shift_value Srliw a amount = word_logical_shift a amount
shift_value Sraiw a amount = word_arithmetic_shift a amount
shift_value _ a amount = 0

-- what an instruction on rs1 and rs2 writes to rd: a shift's amount is the low 6 bits of rs2, 5 in a W form
abbrev pub register_value : Op → ℕ → ℕ → ℕ
register_value Add a b = wrapping_sum a b
register_value Sll a b = left_shift a (b % 2 ^ 6)
register_value Slt a b = truth (signed_lt a b)
register_value Sltu a b = truth (nat_lt a b)
register_value Xor a b = bit_xor a b
register_value Srl a b = logical_shift a (b % 2 ^ 6)
register_value Or a b = bit_or a b
register_value And a b = bit_and a b
register_value Sub a b = wrapping_difference a b
register_value Sra a b = arithmetic_shift a (b % 2 ^ 6)
register_value Mul a b = wrapping_product a b
register_value Mulh a b = signed_high_product a b
register_value Mulhsu a b = mixed_high_product a b
register_value Mulhu a b = unsigned_high_product a b
register_value Div a b = signed_quotient w64 a b
register_value Divu a b = unsigned_quotient w64 a b
register_value Rem a b = signed_remainder w64 a b
register_value Remu a b = unsigned_remainder a b
register_value Addw a b = word_sum a b
register_value Sllw a b = word_left_shift a (b % 2 ^ 5)
register_value Srlw a b = word_logical_shift a (b % 2 ^ 5)
register_value Subw a b = word_difference a b
register_value Sraw a b = word_arithmetic_shift a (b % 2 ^ 5)
register_value Mulw a b = word_product a b
register_value Divw a b = on_words (signed_quotient w32) a b
register_value Divuw a b = on_words (unsigned_quotient w32) a b
register_value Remw a b = on_words (signed_remainder w32) a b
register_value Remuw a b = on_words unsigned_remainder a b
register_value _ a b = 0

-- a value for rd, and on with the next instruction
abbrev pub advance : ℕ → ℕ → ℕ → Meaning
advance rd value pc = Next rd value (wrapping_sum pc 4)

-- a value for rd, and on at a target: instructions lie at multiples of 4
abbrev pub jump : ℕ → ℕ → ℕ → Meaning
jump rd value target = if target % 4 == 0 then Next rd value target else Trap InstrMisaligned

-- an access to memory: its address is a multiple of its size, or it traps
abbrev pub access_or_trap : Asked → Cause → Meaning
access_or_trap access cause = if access.addr % access.size == 0 then Access access else Trap cause

-- where an atomic's address isn't a multiple of its size: a load-reserved counts as a load, all others as
-- stores
abbrev pub misaligned_atomic : Op → Cause
misaligned_atomic Lr = LoadMisaligned
misaligned_atomic _ = StoreMisaligned

-- what an instruction at pc does, by what the registers hold
abbrev pub effect_of : Instr → List ℕ → ℕ → Meaning
effect_of (Upper op rd imm) regs pc = advance rd (upper_value op imm pc) pc
effect_of (Jal rd imm) regs pc = jump rd (wrapping_sum pc 4) (wrapping_sum pc imm)
effect_of (Jalr rd rs1 imm) regs pc = jump rd (wrapping_sum pc 4) (even_address (wrapping_sum (register regs rs1) imm))
effect_of (Branch op rs1 rs2 imm) regs pc =
    if is_taken op (register regs rs1) (register regs rs2) then jump 0 0 (wrapping_sum pc imm) else advance 0 0 pc
effect_of (Load op rd rs1 imm) regs pc =
    access_or_trap (load_of op rd (wrapping_sum (register regs rs1) imm)) LoadMisaligned
effect_of (Store op rs1 rs2 imm) regs pc =
    access_or_trap (store_of op (wrapping_sum (register regs rs1) imm) (register regs rs2)) StoreMisaligned
effect_of (Imm op rd rs1 imm) regs pc = advance rd (immediate_value op (register regs rs1) imm) pc
effect_of (Shift op rd rs1 amount) regs pc = advance rd (shift_value op (register regs rs1) amount) pc
effect_of (Reg op rd rs1 rs2) regs pc = advance rd (register_value op (register regs rs1) (register regs rs2)) pc
effect_of (Atomic op wide rd rs1 rs2 aq rl) regs pc =
    access_or_trap (atomic_of op wide rd (register regs rs1) (register regs rs2)) (misaligned_atomic op)
effect_of (Fence rd rs1 imm) regs pc = advance 0 0 pc
effect_of Ecall regs pc = Call
effect_of Ebreak regs pc = Trap Breakpoint

-- the register that is written has a number below 32
abbrev pub HasRegister : Meaning → Type 0
HasRegister (Next rd value pc) = rd < 32
HasRegister (Access access) = access.rd < 32
HasRegister _ = Unit {0}

-- what is known of an access that is asked for
abbrev pub HasAccess : Meaning → Type 0
HasAccess (Access access) = IsAccess access
HasAccess _ = Unit {0}
