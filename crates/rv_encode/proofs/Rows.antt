-- A word has an instruction's row where its codes and operands are the instruction's, and only there.
use Rattle.std.proofs.Common.{◌≡◌, ℕ, ◌<◌, ◌^◌, Bool, true, false, IsTrue, Option, Some, arith, IfSome, if◌then◌else◌}
use Rattle.std.proofs.lemmas.Bool.Decides.{nat_tests}
use Rattle.rv_decode.specs.declared.instr.Instr.{Instr}
use Rattle.rv_decode.specs.declared.instr.Instr.TheVariants.{Upper, Jal, Jalr, Branch, Load, Store, Imm, Shift, Reg, Atomic, Fence, Ecall, Ebreak}
use Rattle.rv_decode.specs.declared.instr.Op.{Op}
use Rattle.rv_decode.specs.Field.{opcode, funct3, funct7}
use Rattle.rv_decode.specs.Table.{row, jumps, branches, loads, stores, constants, constants_w, registers, registers_w, atomics, atomics_of, fences, system, register}
use Rattle.rv_decode.specs.Valid.{IsValid, is_register}
use Rattle.rv_encode.specs.Codes.{register_codes}
use Rattle.rv_encode.specs.Word.{IsWordOf}
use Rattle.rv_encode.proofs.Once.{once}

-- the word is a word of the instruction that lines have for it, if any
abbrev IsRead : Option Instr → ℕ → Type 0
IsRead found word = IfSome found (λ i. IsWordOf i word)

jumps_read : (word : ℕ) → opcode word ≡ 0b1100111 → IsRead (jumps word) word
unfolding jumps
jumps_read word o = grind (arith, nat_tests)

branches_read : (word : ℕ) → opcode word ≡ 0b1100011 → IsRead (branches word) word
unfolding branches
branches_read word o = grind (arith, nat_tests)

loads_read : (word : ℕ) → opcode word ≡ 0b0000011 → IsRead (loads word) word
unfolding loads
loads_read word o = grind (arith, nat_tests)

stores_read : (word : ℕ) → opcode word ≡ 0b0100011 → IsRead (stores word) word
unfolding stores
stores_read word o = grind (arith, nat_tests)

constants_read : (word : ℕ) → opcode word ≡ 0b0010011 → IsRead (constants word) word
unfolding constants
constants_read word o = grind (arith, nat_tests)

constants_w_read : (word : ℕ) → opcode word ≡ 0b0011011 → IsRead (constants_w word) word
unfolding constants_w
constants_w_read word o = grind (arith, nat_tests)

registers_read : (word : ℕ) → opcode word ≡ 0b0110011 → IsRead (registers word) word
unfolding registers
registers_read word o = grind (arith, nat_tests)

registers_w_read : (word : ℕ) → opcode word ≡ 0b0111011 → IsRead (registers_w word) word
unfolding registers_w
registers_w_read word o = grind (arith, nat_tests)

atomics_of_read : (wide : Bool) (word : ℕ) → opcode word ≡ 0b0101111 → funct3 word ≡ (if wide then 0b011 else 0b010) → IsRead (atomics_of wide word) word
unfolding atomics_of
atomics_of_read wide word o f = grind (arith, nat_tests)

atomics_read : (word : ℕ) → opcode word ≡ 0b0101111 → IsRead (atomics word) word
unfolding atomics
atomics_read word o = grind (arith, nat_tests, atomics_of_read false word o, atomics_of_read true word o)

fences_read : (word : ℕ) → opcode word ≡ 0b0001111 → IsRead (fences word) word
unfolding fences
fences_read word o = grind (arith, nat_tests)

system_read : (word : ℕ) → IsRead (system word) word
unfolding system
system_read word = grind (arith, nat_tests)

read : (word : ℕ) → IsRead (row word) word
unfolding row
read word = grind (arith, nat_tests, jumps_read, branches_read, loads_read, stores_read, constants_read, constants_w_read, registers_read, registers_w_read, atomics_read, fences_read, system_read)

register_row : (op : Op) (word : ℕ) → IsTrue (is_register op) → opcode word ≡ (register_codes op).opcode → funct3 word ≡ (register_codes op).funct3 → funct7 word ≡ (register_codes op).funct7 → row word ≡ register op word
unfolding row registers registers_w
register_row op word known o f s = grind (arith, nat_tests)

-- a word of a valid instruction has its row
pub row_of_word : (i : Instr) (word : ℕ) → IsValid i → IsWordOf i word → row word ≡ Some i
unfolding row jumps branches loads stores constants constants_w registers registers_w atomics atomics_of fences system
row_of_word (Upper op d imm) word v h = grind (arith, nat_tests)
row_of_word (Jal d imm) word v h = grind (arith, nat_tests)
row_of_word (Jalr d a imm) word v h = grind (arith, nat_tests)
row_of_word (Branch op a b imm) word v h = grind (arith, nat_tests)
row_of_word (Load op d a imm) word v h = grind (arith, nat_tests)
row_of_word (Store op a b imm) word v h = grind (arith, nat_tests)
row_of_word (Imm op d a imm) word v h = grind (arith, nat_tests)
row_of_word (Shift op d a k) word v h = grind (arith, nat_tests)
row_of_word (Reg op d a b) word v h = grind (arith, register_row)
row_of_word (Atomic op wide d a b acquires releases) word v h = grind (arith, nat_tests)
row_of_word (Fence d a imm) word v h = grind (arith, nat_tests)
row_of_word Ecall word v h = grind (arith, nat_tests)
row_of_word Ebreak word v h = grind (arith, nat_tests)

row_reads : (i : Instr) (word : ℕ) → row word ≡ Some i → IsWordOf i word
row_reads i word e = let h = read word in rw e at h

-- two words with one row are one word
pub same_word : (w v : ℕ) → w < 2 ^ 32 → v < 2 ^ 32 → (i : Instr) → row w ≡ Some i → row v ≡ Some i → w ≡ v
same_word w v a b i h k = once i w v a b (row_reads i w h) (row_reads i v k)
