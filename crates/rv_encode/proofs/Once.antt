-- Two words of one instruction are one word.
use Rattle.std.proofs.Common.{◌≡◌, ℕ, ◌<◌, ◌^◌, arith}
use Rattle.std.proofs.lemmas.Bool.Decides.{nat_tests}
use Rattle.rv_decode.specs.declared.instr.Instr.{Instr}
use Rattle.rv_decode.specs.declared.instr.Instr.TheVariants.{Upper, Jal, Jalr, Branch, Load, Store, Imm, Shift, Reg, Atomic, Fence, Ecall, Ebreak}
use Rattle.rv_decode.specs.Field.{opcode, rd, funct3, rs1, rs2, funct7, immediate_i, immediate_s, immediate_b, immediate_u, immediate_j}
use Rattle.rv_encode.specs.Word.{IsWordOf}

-- a word is its six fields
same : (w v : ℕ) → w < 2 ^ 32 → v < 2 ^ 32 → opcode w ≡ opcode v → rd w ≡ rd v → funct3 w ≡ funct3 v → rs1 w ≡ rs1 v → rs2 w ≡ rs2 v → funct7 w ≡ funct7 v → w ≡ v
same w v a b o d f p q s = omega arith

-- an immediate determines the fields that its bits stand in
same_i : (w v : ℕ) → immediate_i w ≡ immediate_i v → (rs2 w ≡ rs2 v) × (funct7 w ≡ funct7 v)
same_i w v e = grind (arith, nat_tests)

same_s : (w v : ℕ) → immediate_s w ≡ immediate_s v → (rd w ≡ rd v) × (funct7 w ≡ funct7 v)
same_s w v e = grind (arith, nat_tests)

same_b : (w v : ℕ) → immediate_b w ≡ immediate_b v → (rd w ≡ rd v) × (funct7 w ≡ funct7 v)
same_b w v e = grind (arith, nat_tests)

same_u : (w v : ℕ) → immediate_u w ≡ immediate_u v → (funct3 w ≡ funct3 v) × (rs1 w ≡ rs1 v) × (rs2 w ≡ rs2 v) × (funct7 w ≡ funct7 v)
same_u w v e = grind (arith, nat_tests)

same_j : (w v : ℕ) → immediate_j w ≡ immediate_j v → (funct3 w ≡ funct3 v) × (rs1 w ≡ rs1 v) × (rs2 w ≡ rs2 v) × (funct7 w ≡ funct7 v)
same_j w v e = grind (arith, nat_tests)

pub once : (i : Instr) (w v : ℕ) → w < 2 ^ 32 → v < 2 ^ 32 → IsWordOf i w → IsWordOf i v → w ≡ v
once (Upper op d imm) w v a b h k = grind (arith, same, same_u)
once (Jal d imm) w v a b h k = grind (arith, same, same_j)
once (Jalr d p imm) w v a b h k = grind (arith, same, same_i)
once (Branch op p q imm) w v a b h k = grind (arith, same, same_b)
once (Load op d p imm) w v a b h k = grind (arith, same, same_i)
once (Store op p q imm) w v a b h k = grind (arith, same, same_s)
once (Imm op d p imm) w v a b h k = grind (arith, same, same_i)
once (Shift op d p n) w v a b h k = grind (arith, same)
once (Reg op d p q) w v a b h k = grind (arith, same)
once (Atomic op wide d p q acquires releases) w v a b h k = grind (arith, same, nat_tests)
once (Fence d p imm) w v a b h k = grind (arith, same, same_i)
once Ecall w v a b h k = grind arith
once Ebreak w v a b h k = grind arith
