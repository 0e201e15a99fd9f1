-- The fields and the immediates of a 32-bit instruction word of RV64IMA, as numbers. From the RISC-V ISA
-- manual's base instruction formats and immediate encoding variants; bit 0 is the lowest.
use Rattle.std.specs.Prelude.{ℕ, Bool, ◌+◌, ◌-◌, ◌*◌, ◌/◌, ◌%◌, ◌^◌, ◌==◌, nat_lt, if◌then◌else◌}

-- as many bits as `width` says, from the bit `low` up
abbrev pub field : ℕ → ℕ → ℕ → ℕ
field word low width = word / 2 ^ low % 2 ^ width

-- a number of so many bits with its top bit as its sign, modulo 2 ^ 64
abbrev pub extended : ℕ → ℕ → ℕ
extended bits n = if nat_lt n (2 ^ (bits - 1)) then n else n + (2 ^ 64 - 2 ^ bits)

-- the fields that the forms share
abbrev pub opcode : ℕ → ℕ
opcode word = field word 0 7

abbrev pub rd : ℕ → ℕ
rd word = field word 7 5

abbrev pub funct3 : ℕ → ℕ
funct3 word = field word 12 3

abbrev pub rs1 : ℕ → ℕ
rs1 word = field word 15 5

abbrev pub rs2 : ℕ → ℕ
rs2 word = field word 20 5

abbrev pub funct7 : ℕ → ℕ
funct7 word = field word 25 7

-- a shift by a constant has a code of 6 bits and an amount of 6 bits; in the W forms of 7 and 5 bits
abbrev pub funct6 : ℕ → ℕ
funct6 word = field word 26 6

abbrev pub amount : ℕ → ℕ
amount word = field word 20 6

abbrev pub amount_w : ℕ → ℕ
amount_w word = field word 20 5

-- an atomic has a code of 5 bits, and two bits that order it with other accesses
abbrev pub funct5 : ℕ → ℕ
funct5 word = field word 27 5

abbrev pub aq : ℕ → Bool
aq word = field word 26 1 == 1

abbrev pub rl : ℕ → Bool
rl word = field word 25 1 == 1

-- I: bits 31..20
abbrev pub immediate_i : ℕ → ℕ
immediate_i word = extended 12 (field word 20 12)

-- S: imm[11:5] are bits 31..25, imm[4:0] are bits 11..7
abbrev pub immediate_s : ℕ → ℕ
immediate_s word = extended 12 (field word 25 7 * 2 ^ 5 + field word 7 5)

-- B: imm[12] is bit 31, imm[11] is bit 7, imm[10:5] are bits 30..25, imm[4:1] are bits 11..8
abbrev pub immediate_b : ℕ → ℕ
immediate_b word =
    extended 13 (field word 31 1 * 2 ^ 12 + field word 7 1 * 2 ^ 11 + field word 25 6 * 2 ^ 5 + field word 8 4 * 2)

-- U: imm[31:12] are bits 31..12
abbrev pub immediate_u : ℕ → ℕ
immediate_u word = extended 32 (field word 12 20 * 2 ^ 12)

-- J: imm[20] is bit 31, imm[19:12] are bits 19..12, imm[11] is bit 20, imm[10:1] are bits 30..21
abbrev pub immediate_j : ℕ → ℕ
immediate_j word =
    extended 21 (field word 31 1 * 2 ^ 20 + field word 12 8 * 2 ^ 12 + field word 20 1 * 2 ^ 11 + field word 21 10 * 2)
