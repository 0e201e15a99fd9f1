-- Every row of the instruction table is an instruction.
use Rattle.std.proofs.Common.{◌≡◌, ◌+◌, ◌-◌, ◌*◌, ◌%◌, ◌^◌, ◌<◌, ◌≤◌, ◌⊎◌, ◌==◌, ℕ, Bool, true, false, cond, IsTrue, List, [], ◌∷◌, refl, arith, nat_lt, Option, Some, None, option_and_then, inl, inr, subst, sym, Bor}
use Rattle.std.specs.Prelude.{IfSome}
use Rattle.std.proofs.lemmas.Bool.{cases_Bool, ltb-true, ltb-false, eqb-true}
use Rattle.std.specs.Option.{option_copied}
use Rattle.rv_decode.specs.declared.instr.Instr.{Instr}
use Rattle.rv_decode.specs.declared.instr.Op.{Op}
use Rattle.rv_decode.specs.declared.instr.Op.TheVariants.{Lui, Auipc, Beq, Bne, Blt, Bge, Bltu, Bgeu, Lb, Lh, Lw, Ld, Lbu, Lhu, Lwu, Sb, Sh, Sw, Sd, Addi, Slti, Sltiu, Xori, Ori, Andi, Addiw, Slli, Srli, Srai, Slliw, Srliw, Sraiw, Add, Sll, Slt, Sltu, Xor, Srl, Or, And, Sub, Sra, Addw, Sllw, Srlw, Subw, Sraw, Mul, Mulh, Mulhsu, Mulhu, Div, Divu, Rem, Remu, Mulw, Divw, Divuw, Remw, Remuw, AmoAdd, AmoSwap, Lr, Sc, AmoXor, AmoOr, AmoAnd, AmoMin, AmoMax, AmoMinu, AmoMaxu}
use Rattle.rv_decode.specs.Field.{opcode, field, funct3, funct5, funct6, funct7, rs2, amount, amount_w}
use Rattle.rv_decode.specs.Table.{Lines, listed, by, upper, jump, jump_register, branch, load, store, constant, shift, shift_w, register, atomic, fence, jumps, branches, loads, stores, constants, constants_w, registers, registers_w, atomics, atomics_of, fences, system, row}
use Rattle.rv_decode.specs.Valid.{IsValid, IsAmount, IsSource, is_upper, is_branch, is_load, is_store, is_immediate, is_register, is_atomic}

record AreValid (lines : Lines) : Type 0 where
  each : (w : ℕ) → IfSome (lines w) IsValid

data EachValid : List (ℕ × Lines) → Type 0 where
  nothing : EachValid []
  also : {code : ℕ} {lines : Lines} {rest : List (ℕ × Lines)} → AreValid lines → EachValid rest → EachValid ((code, lines) ∷ rest)

infixr 5 ◌▸◌
◌▸◌ : {code : ℕ} {lines : Lines} {rest : List (ℕ × Lines)} → AreValid lines → EachValid rest → EachValid ((code, lines) ∷ rest)
first ▸ rest = also first rest

listed_valid : {list : List (ℕ × Lines)} → EachValid list → (code w : ℕ) → IfSome (option_and_then (λ (ls : Lines). ls w) (listed list code)) IsValid
listed_valid nothing code w = tt
listed_valid (also {code = key} {lines = lines} {rest = rest} first more) code w = elim (key == code) as (λ b. IfSome (option_and_then (λ (ls : Lines). ls w) (cond b (Some lines) (listed rest code))) IsValid) [
  | true ↦ first.each w
  | false ↦ listed_valid more code w
]

by_valid : (of_word : ℕ → ℕ) {list : List (ℕ × Lines)} → EachValid list → AreValid (by of_word list)
by_valid of_word all = record { each = λ w. listed_valid all (of_word w) w }

-- a number below twice the half is a signed one, once its sign is extended
signed : (half n : ℕ) → n < 2 * half → 2 * half ≤ 2 ^ 64 →
    let e = cond (nat_lt n half) n (n + (2 ^ 64 - 2 * half)) in (e < half) ⊎ ((2 ^ 64 - half ≤ e) × (e < 2 ^ 64))
signed half n small few = elim (cases_Bool (nat_lt n half)) [
  | inl low ↦ rw low (inl (ltb-true n half low))
  | inr high ↦ let from : half ≤ n = ltb-false n half high in rw high (inr (omega arith, omega arith))
]

-- extending the sign keeps what a number is a multiple of
multiple : (b : Bool) (k n more : ℕ) → n % k ≡ 0 → (n + more) % k ≡ 0 → cond b n (n + more) % k ≡ 0
multiple true k n more h g = h
multiple false k n more h g = g

upper_valid : (op : Op) → IsTrue (is_upper op) → AreValid (upper op)
upper_valid op is = record { each = λ w. (is, omega arith, signed 0x8000_0000 (field w 12 20 * 2 ^ 12) (omega arith) (omega arith), multiple (nat_lt (field w 12 20 * 2 ^ 12) 0x8000_0000) 4096 (field w 12 20 * 2 ^ 12) _ (omega arith) (omega arith)) }

jump_valid : AreValid jump
jump_valid = record {
  each = λ w.
      let n = field w 31 1 * 2 ^ 20 + field w 12 8 * 2 ^ 12 + field w 20 1 * 2 ^ 11 + field w 21 10 * 2 in
      (omega arith, signed 0x10_0000 n (omega arith) (omega arith), multiple (nat_lt n 0x10_0000) 2 n _ (omega arith) (omega arith));
}

jump_register_valid : AreValid jump_register
jump_register_valid = record { each = λ w. (omega arith, omega arith, signed 2048 (field w 20 12) (omega arith) (omega arith)) }

branch_valid : (op : Op) → IsTrue (is_branch op) → AreValid (branch op)
branch_valid op is = record {
  each = λ w.
      let n = field w 31 1 * 2 ^ 12 + field w 7 1 * 2 ^ 11 + field w 25 6 * 2 ^ 5 + field w 8 4 * 2 in
      (is, omega arith, omega arith, signed 4096 n (omega arith) (omega arith), multiple (nat_lt n 4096) 2 n _ (omega arith) (omega arith));
}

load_valid : (op : Op) → IsTrue (is_load op) → AreValid (load op)
load_valid op is = record { each = λ w. (is, omega arith, omega arith, signed 2048 (field w 20 12) (omega arith) (omega arith)) }

store_valid : (op : Op) → IsTrue (is_store op) → AreValid (store op)
store_valid op is = record { each = λ w. (is, omega arith, omega arith, signed 2048 (field w 25 7 * 2 ^ 5 + field w 7 5) (omega arith) (omega arith)) }

constant_valid : (op : Op) → IsTrue (is_immediate op) → AreValid (constant op)
constant_valid op is = record { each = λ w. (is, omega arith, omega arith, signed 2048 (field w 20 12) (omega arith) (omega arith)) }

-- a shift's amount is below 64, and below 32 in the W forms
shift_valid : (op : Op) → ((n : ℕ) → n < 64 → IsAmount op n) → AreValid (shift op)
shift_valid op is = record { each = λ w. (is (amount w) (omega arith), omega arith, omega arith) }

shift_w_valid : (op : Op) → ((n : ℕ) → n < 32 → IsAmount op n) → AreValid (shift_w op)
shift_w_valid op is = record { each = λ w. (is (amount_w w) (omega arith), omega arith, omega arith) }

register_valid : (op : Op) → IsTrue (is_register op) → AreValid (register op)
register_valid op is = record { each = λ w. (is, omega arith, omega arith, omega arith) }

atomic_valid : (wide : Bool) (op : Op) → IsTrue (is_atomic op) → ((n : ℕ) → n < 32 → IsSource op n) → AreValid (atomic wide op)
atomic_valid wide op is source = record { each = λ w. (is, omega arith, omega arith, source (rs2 w) (omega arith)) }

-- a load-reserved is listed where its second source is 0
reserved_valid : (wide : Bool) → AreValid (by rs2 ((0, atomic wide Lr) ∷ []))
reserved_valid wide = record { each = λ w. by_source w (0 == rs2 w) refl }
  where
    by_source : (w : ℕ) (b : Bool) → (0 == rs2 w) ≡ b → IfSome (option_and_then (λ (ls : Lines). ls w) (cond b (Some (atomic wide Lr)) None)) IsValid
    by_source w true is = (refl, omega arith, omega arith, sym (eqb-true 0 (rs2 w) is))
    by_source w false is = tt

fence_valid : AreValid fence
fence_valid = record { each = λ w. (omega arith, omega arith, signed 2048 (field w 20 12) (omega arith) (omega arith)) }

jumps_valid : AreValid jumps
unfolding jumps
jumps_valid = by_valid funct3 (jump_register_valid ▸ nothing)

branches_valid : AreValid branches
unfolding branches
branches_valid = by_valid funct3 (branch_valid Beq refl ▸ branch_valid Bne refl ▸ branch_valid Blt refl ▸ branch_valid Bge refl ▸ branch_valid Bltu refl ▸ branch_valid Bgeu refl ▸ nothing)

loads_valid : AreValid loads
unfolding loads
loads_valid = by_valid funct3 (load_valid Lb refl ▸ load_valid Lh refl ▸ load_valid Lw refl ▸ load_valid Ld refl ▸ load_valid Lbu refl ▸ load_valid Lhu refl ▸ load_valid Lwu refl ▸ nothing)

stores_valid : AreValid stores
unfolding stores
stores_valid = by_valid funct3 (store_valid Sb refl ▸ store_valid Sh refl ▸ store_valid Sw refl ▸ store_valid Sd refl ▸ nothing)

constants_valid : AreValid constants
unfolding constants
constants_valid = by_valid funct3 (constant_valid Addi refl ▸ constant_valid Slti refl ▸ constant_valid Sltiu refl ▸ constant_valid Xori refl ▸ constant_valid Ori refl ▸ constant_valid Andi refl ▸ by_valid funct6 (shift_valid Slli (λ n h. h) ▸ nothing) ▸ by_valid funct6 (shift_valid Srli (λ n h. h) ▸ shift_valid Srai (λ n h. h) ▸ nothing) ▸ nothing)

constants_w_valid : AreValid constants_w
unfolding constants_w
constants_w_valid = by_valid funct3 (constant_valid Addiw refl ▸ by_valid funct7 (shift_w_valid Slliw (λ n h. h) ▸ nothing) ▸ by_valid funct7 (shift_w_valid Srliw (λ n h. h) ▸ shift_w_valid Sraiw (λ n h. h) ▸ nothing) ▸ nothing)

registers_valid : AreValid registers
unfolding registers
registers_valid = by_valid funct7 (by_valid funct3 (register_valid Add refl ▸ register_valid Sll refl ▸ register_valid Slt refl ▸ register_valid Sltu refl ▸ register_valid Xor refl ▸ register_valid Srl refl ▸ register_valid Or refl ▸ register_valid And refl ▸ nothing) ▸ by_valid funct3 (register_valid Sub refl ▸ register_valid Sra refl ▸ nothing) ▸ by_valid funct3 (register_valid Mul refl ▸ register_valid Mulh refl ▸ register_valid Mulhsu refl ▸ register_valid Mulhu refl ▸ register_valid Div refl ▸ register_valid Divu refl ▸ register_valid Rem refl ▸ register_valid Remu refl ▸ nothing) ▸ nothing)

registers_w_valid : AreValid registers_w
unfolding registers_w
registers_w_valid = by_valid funct7 (by_valid funct3 (register_valid Addw refl ▸ register_valid Sllw refl ▸ register_valid Srlw refl ▸ nothing) ▸ by_valid funct3 (register_valid Subw refl ▸ register_valid Sraw refl ▸ nothing) ▸ by_valid funct3 (register_valid Mulw refl ▸ register_valid Divw refl ▸ register_valid Divuw refl ▸ register_valid Remw refl ▸ register_valid Remuw refl ▸ nothing) ▸ nothing)

atomics_of_valid : (wide : Bool) → AreValid (atomics_of wide)
unfolding atomics_of
atomics_of_valid wide = by_valid funct5 (atomic_valid wide AmoAdd refl (λ n h. h) ▸ atomic_valid wide AmoSwap refl (λ n h. h) ▸ reserved_valid wide ▸ atomic_valid wide Sc refl (λ n h. h) ▸ atomic_valid wide AmoXor refl (λ n h. h) ▸ atomic_valid wide AmoOr refl (λ n h. h) ▸ atomic_valid wide AmoAnd refl (λ n h. h) ▸ atomic_valid wide AmoMin refl (λ n h. h) ▸ atomic_valid wide AmoMax refl (λ n h. h) ▸ atomic_valid wide AmoMinu refl (λ n h. h) ▸ atomic_valid wide AmoMaxu refl (λ n h. h) ▸ nothing)

atomics_valid : AreValid atomics
unfolding atomics
atomics_valid = by_valid funct3 (atomics_of_valid false ▸ atomics_of_valid true ▸ nothing)

fences_valid : AreValid fences
unfolding fences
fences_valid = by_valid funct3 (fence_valid ▸ nothing)

system_valid : AreValid system
unfolding system
system_valid = by_valid (λ word. word) (record { each = λ w. tt } ▸ record { each = λ w. tt } ▸ nothing)

rows_valid : AreValid row
unfolding row
rows_valid = by_valid opcode (upper_valid Lui refl ▸ upper_valid Auipc refl ▸ jump_valid ▸ jumps_valid ▸ branches_valid ▸ loads_valid ▸ stores_valid ▸ constants_valid ▸ constants_w_valid ▸ registers_valid ▸ registers_w_valid ▸ atomics_valid ▸ fences_valid ▸ system_valid ▸ nothing)

pub row_valid : (w : ℕ) → IfSome (row w) IsValid
row_valid w = rows_valid.each w

-- so is what is lent
pub lent_valid : (lent : Option (Bor Instr)) (o : Option ℕ) → option_copied lent ≡ option_and_then row o → IfSome lent (λ i. IsValid i.now)
lent_valid None o e = tt
lent_valid (Some i) None e = cc
lent_valid (Some i) (Some w) e = subst (λ (found : Option Instr). IfSome found IsValid) (sym e) (row_valid w)
