-- For the private functions alone: the clauses of `encode` and `decodes_once` cite nothing of this file.
-- Which word an instruction is written as: the codes and the operands in its fields are the instruction's. From the
-- formats and the listing of RV64IMA in the RISC-V ISA manual.
use Rattle.std.specs.Prelude.{ℕ, ◌≡◌, ◌*◌, if◌then◌else◌}
use Rattle.rv_decode.specs.declared.instr.Instr.{Instr}
use Rattle.rv_decode.specs.declared.instr.Instr.TheVariants.{Upper, Jal, Jalr, Branch, Load, Store, Imm, Shift, Reg, Atomic, Fence, Ecall, Ebreak}
use Rattle.rv_decode.specs.Field.{opcode, rd, funct3, rs1, rs2, funct7, funct6, funct5, aq, rl, amount, immediate_i, immediate_s, immediate_b, immediate_u, immediate_j}
use Rattle.rv_encode.specs.Codes.{upper_code, branch_code, load_code, store_code, immediate_codes, shift_codes, register_codes, atomic_code}

-- the I form: bits 31 to 20 are an immediate
abbrev pub IsWithImmediate : ℕ → ℕ → ℕ → ℕ → ℕ → ℕ → Type 0
IsWithImmediate code code3 d a imm word =
    (opcode word ≡ code) × (funct3 word ≡ code3) × (rd word ≡ d) × (rs1 word ≡ a) × (immediate_i word ≡ imm)

-- the word has the instruction's codes and operands
abbrev pub IsWordOf : Instr → ℕ → Type 0
IsWordOf (Upper op d imm) word = (opcode word ≡ upper_code op) × (rd word ≡ d) × (immediate_u word ≡ imm)
IsWordOf (Jal d imm) word = (opcode word ≡ 0b1101111) × (rd word ≡ d) × (immediate_j word ≡ imm)
IsWordOf (Jalr d a imm) word = IsWithImmediate 0b1100111 0b000 d a imm word
IsWordOf (Branch op a b imm) word =
    (opcode word ≡ 0b1100011)
    × (funct3 word ≡ branch_code op)
    × (rs1 word ≡ a)
    × (rs2 word ≡ b)
    × (immediate_b word ≡ imm)
IsWordOf (Load op d a imm) word = IsWithImmediate 0b0000011 (load_code op) d a imm word
IsWordOf (Store op a b imm) word =
    (opcode word ≡ 0b0100011)
    × (funct3 word ≡ store_code op)
    × (rs1 word ≡ a)
    × (rs2 word ≡ b)
    × (immediate_s word ≡ imm)
IsWordOf (Imm op d a imm) word = IsWithImmediate (immediate_codes op).opcode (immediate_codes op).funct3 d a imm word
IsWordOf (Shift op d a k) word =
    (opcode word ≡ (shift_codes op).opcode)
    × (funct3 word ≡ (shift_codes op).funct3)
    × (funct6 word * 2 ≡ (shift_codes op).funct7)
    × (rd word ≡ d)
    × (rs1 word ≡ a)
    × (amount word ≡ k)
IsWordOf (Reg op d a b) word =
    (opcode word ≡ (register_codes op).opcode)
    × (funct3 word ≡ (register_codes op).funct3)
    × (funct7 word ≡ (register_codes op).funct7)
    × (rd word ≡ d)
    × (rs1 word ≡ a)
    × (rs2 word ≡ b)
IsWordOf (Atomic op wide d a b acquires releases) word =
    (opcode word ≡ 0b0101111)
    × (funct3 word ≡ (if wide then 0b011 else 0b010))
    × (funct5 word ≡ atomic_code op)
    × (rd word ≡ d)
    × (rs1 word ≡ a)
    × (rs2 word ≡ b)
    × (aq word ≡ acquires)
    × (rl word ≡ releases)
IsWordOf (Fence d a imm) word = IsWithImmediate 0b0001111 0b000 d a imm word
IsWordOf Ecall word = word ≡ 0x00000073
IsWordOf Ebreak word = word ≡ 0x00100073
