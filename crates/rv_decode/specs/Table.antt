-- Which word is which instruction. From the RISC-V ISA manual's listing of RV64IMA (RV32I, RV64I and the
-- extensions M and A), with the bits as it prints them. A word with no line has no instruction; to add an
-- instruction is to add a line.
use Rattle.std.specs.Prelude.{ℕ, Bool, true, false, ◌==◌, if◌then◌else◌, List, [], ◌∷◌, Option, Some, None, option_and_then}
use Rattle.rv_decode.specs.declared.instr.Instr.{Instr}
use Rattle.rv_decode.specs.declared.instr.Instr.TheVariants.{Upper, Jal, Jalr, Branch, Load, Store, Imm, Shift, Reg, Atomic, Fence, Ecall, Ebreak}
use Rattle.rv_decode.specs.declared.instr.Op.{Op}
use Rattle.rv_decode.specs.declared.instr.Op.TheVariants.{Lui, Auipc, Beq, Bne, Blt, Bge, Bltu, Bgeu, Lb, Lh, Lw, Ld, Lbu, Lhu, Lwu, Sb, Sh, Sw, Sd, Addi, Slti, Sltiu, Xori, Ori, Andi, Addiw, Slli, Srli, Srai, Slliw, Srliw, Sraiw, Add, Sll, Slt, Sltu, Xor, Srl, Or, And, Sub, Sra, Mul, Mulh, Mulhsu, Mulhu, Div, Divu, Rem, Remu, Addw, Sllw, Srlw, Subw, Sraw, Mulw, Divw, Divuw, Remw, Remuw, AmoAdd, AmoSwap, Lr, Sc, AmoXor, AmoOr, AmoAnd, AmoMin, AmoMax, AmoMinu, AmoMaxu}
use Rattle.rv_decode.specs.Field.{opcode, rd, funct3, rs1, rs2, funct7, funct6, funct5, aq, rl, amount, amount_w, immediate_i, immediate_s, immediate_b, immediate_u, immediate_j}

-- a line or some lines of the listing: the instruction that they have for a word, if any
abbrev pub Lines : Type 0
Lines = ℕ → Option Instr

-- what is listed under a code
abbrev pub listed : List (ℕ × Lines) → ℕ → Option Lines
listed [] code = None
listed ((key, lines) ∷ rest) code = if key == code then Some lines else listed rest code

-- lines under the values of a field
abbrev pub by : (ℕ → ℕ) → List (ℕ × Lines) → Lines
by of_word list word = option_and_then (λ lines. lines word) (listed list (of_word word))

-- the forms
abbrev pub upper : Op → Lines
upper op word = Some (Upper op (rd word) (immediate_u word))

abbrev pub jump : Lines
jump word = Some (Jal (rd word) (immediate_j word))

abbrev pub jump_register : Lines
jump_register word = Some (Jalr (rd word) (rs1 word) (immediate_i word))

abbrev pub branch : Op → Lines
branch op word = Some (Branch op (rs1 word) (rs2 word) (immediate_b word))

abbrev pub load : Op → Lines
load op word = Some (Load op (rd word) (rs1 word) (immediate_i word))

abbrev pub store : Op → Lines
store op word = Some (Store op (rs1 word) (rs2 word) (immediate_s word))

abbrev pub constant : Op → Lines
constant op word = Some (Imm op (rd word) (rs1 word) (immediate_i word))

abbrev pub shift : Op → Lines
shift op word = Some (Shift op (rd word) (rs1 word) (amount word))

abbrev pub shift_w : Op → Lines
shift_w op word = Some (Shift op (rd word) (rs1 word) (amount_w word))

abbrev pub register : Op → Lines
register op word = Some (Reg op (rd word) (rs1 word) (rs2 word))

abbrev pub atomic : Bool → Op → Lines
atomic wide op word = Some (Atomic op wide (rd word) (rs1 word) (rs2 word) (aq word) (rl word))

abbrev pub fence : Lines
fence word = Some (Fence (rd word) (rs1 word) (immediate_i word))

-- opcode 1100111
unfoldable pub jumps : Lines
jumps = by funct3 ((0b000, jump_register) ∷ [])

-- opcode 1100011
unfoldable pub branches : Lines
branches = by funct3
    ((0b000, branch Beq)
    ∷ (0b001, branch Bne)
    ∷ (0b100, branch Blt)
    ∷ (0b101, branch Bge)
    ∷ (0b110, branch Bltu)
    ∷ (0b111, branch Bgeu)
    ∷ [])

-- opcode 0000011
unfoldable pub loads : Lines
loads = by funct3
    ((0b000, load Lb)
    ∷ (0b001, load Lh)
    ∷ (0b010, load Lw)
    ∷ (0b011, load Ld)
    ∷ (0b100, load Lbu)
    ∷ (0b101, load Lhu)
    ∷ (0b110, load Lwu)
    ∷ [])

-- opcode 0100011
unfoldable pub stores : Lines
stores = by funct3
    ((0b000, store Sb)
    ∷ (0b001, store Sh)
    ∷ (0b010, store Sw)
    ∷ (0b011, store Sd)
    ∷ [])

-- opcode 0010011
unfoldable pub constants : Lines
constants = by funct3
    ((0b000, constant Addi)
    ∷ (0b010, constant Slti)
    ∷ (0b011, constant Sltiu)
    ∷ (0b100, constant Xori)
    ∷ (0b110, constant Ori)
    ∷ (0b111, constant Andi)
    ∷ (0b001, by funct6 ((0b000000, shift Slli) ∷ []))
    ∷ (0b101, by funct6 ((0b000000, shift Srli) ∷ (0b010000, shift Srai) ∷ []))
    ∷ [])

-- opcode 0011011
unfoldable pub constants_w : Lines
constants_w = by funct3
    ((0b000, constant Addiw)
    ∷ (0b001, by funct7 ((0b0000000, shift_w Slliw) ∷ []))
    ∷ (0b101, by funct7 ((0b0000000, shift_w Srliw) ∷ (0b0100000, shift_w Sraiw) ∷ []))
    ∷ [])

-- opcode 0110011
unfoldable pub registers : Lines
registers = by funct7
    ((
      0b0000000,
      by funct3
          ((0b000, register Add)
          ∷ (0b001, register Sll)
          ∷ (0b010, register Slt)
          ∷ (0b011, register Sltu)
          ∷ (0b100, register Xor)
          ∷ (0b101, register Srl)
          ∷ (0b110, register Or)
          ∷ (0b111, register And)
          ∷ []),
    )
    ∷ (
      0b0100000,
      by funct3
          ((0b000, register Sub)
          ∷ (0b101, register Sra)
          ∷ []),
    )
    ∷ (
      0b0000001,
      by funct3
          ((0b000, register Mul)
          ∷ (0b001, register Mulh)
          ∷ (0b010, register Mulhsu)
          ∷ (0b011, register Mulhu)
          ∷ (0b100, register Div)
          ∷ (0b101, register Divu)
          ∷ (0b110, register Rem)
          ∷ (0b111, register Remu)
          ∷ []),
    )
    ∷ [])

-- opcode 0111011
unfoldable pub registers_w : Lines
registers_w = by funct7
    ((
      0b0000000,
      by funct3
          ((0b000, register Addw)
          ∷ (0b001, register Sllw)
          ∷ (0b101, register Srlw)
          ∷ []),
    )
    ∷ (
      0b0100000,
      by funct3
          ((0b000, register Subw)
          ∷ (0b101, register Sraw)
          ∷ []),
    )
    ∷ (
      0b0000001,
      by funct3
          ((0b000, register Mulw)
          ∷ (0b100, register Divw)
          ∷ (0b101, register Divuw)
          ∷ (0b110, register Remw)
          ∷ (0b111, register Remuw)
          ∷ []),
    )
    ∷ [])

-- opcode 0101111 by its width: a load-reserved has no second source, so its rs2 is zero
unfoldable pub atomics_of : Bool → Lines
atomics_of wide = by funct5
    ((0b00000, atomic wide AmoAdd)
    ∷ (0b00001, atomic wide AmoSwap)
    ∷ (0b00010, by rs2 ((0, atomic wide Lr) ∷ []))
    ∷ (0b00011, atomic wide Sc)
    ∷ (0b00100, atomic wide AmoXor)
    ∷ (0b01000, atomic wide AmoOr)
    ∷ (0b01100, atomic wide AmoAnd)
    ∷ (0b10000, atomic wide AmoMin)
    ∷ (0b10100, atomic wide AmoMax)
    ∷ (0b11000, atomic wide AmoMinu)
    ∷ (0b11100, atomic wide AmoMaxu)
    ∷ [])

-- opcode 0101111: W on 4 bytes, D on 8
unfoldable pub atomics : Lines
atomics = by funct3 ((0b010, atomics_of false) ∷ (0b011, atomics_of true) ∷ [])

-- opcode 0001111
unfoldable pub fences : Lines
fences = by funct3 ((0b000, fence) ∷ [])

-- opcode 1110011: two whole words
unfoldable pub system : Lines
system = by (λ word. word) ((0x00000073, λ word. Some Ecall) ∷ (0x00100073, λ word. Some Ebreak) ∷ [])

-- the instruction of a word
unfoldable pub row : Lines
row = by opcode
    ((0b0110111, upper Lui)
    ∷ (0b0010111, upper Auipc)
    ∷ (0b1101111, jump)
    ∷ (0b1100111, jumps)
    ∷ (0b1100011, branches)
    ∷ (0b0000011, loads)
    ∷ (0b0100011, stores)
    ∷ (0b0010011, constants)
    ∷ (0b0011011, constants_w)
    ∷ (0b0110011, registers)
    ∷ (0b0111011, registers_w)
    ∷ (0b0101111, atomics)
    ∷ (0b0001111, fences)
    ∷ (0b1110011, system)
    ∷ [])
