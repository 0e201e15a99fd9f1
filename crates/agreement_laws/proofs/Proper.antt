-- An access that a step asks for lies in one line, and its bytes have the right that it needs.
use Rattle.std.proofs.Common.{◌≡◌, ℕ, ◌+◌, ◌≤◌, Bool, true, false, cond, not, ◌&&◌, List, Option, Some, None, refl, arith, subst}
use Rattle.std.proofs.lemmas.Bool.Decides.{nat_tests}
use Rattle.std.specs.Prelude.{◌%◌, ◌==◌, if◌then◌else◌, IsTrue, IfSome}
use Rattle.sim_base.specs.declared.ends.Cause.{Cause}
use Rattle.sim_base.specs.declared.kinds.CostClass.{CostClass}
use Rattle.rv_decode.specs.declared.instr.Op.{Op}
use Rattle.rv_decode.specs.declared.instr.Op.TheVariants.{Lb, Lh, Lw, Ld, Lbu, Lhu, Lwu, Sb, Sh, Sw, Sd}
use Rattle.rv_decode.specs.declared.instr.Instr.{Instr}
use Rattle.rv_decode.specs.declared.instr.Instr.TheVariants.{Upper, Jal, Jalr, Branch, Load, Store, Imm, Shift, Reg, Atomic, Fence, Ecall, Ebreak}
use Rattle.rv_decode.specs.Table.{row}
use Rattle.rv_decode.specs.Valid.{IsValid, is_load, is_store}
use Rattle.rv_exec.specs.declared.meaning.Meaning.{Meaning}
use Rattle.rv_exec.specs.declared.meaning.Meaning.TheVariants.{Next as NextMeaning, Access as AccessMeaning, Call as CallMeaning, Trap as TrapMeaning}
use Rattle.rv_exec.specs.Access.{Asked, size_of, is_size, load_of, store_of, atomic_of}
use Rattle.rv_exec.specs.Arithmetic.{wrapping_sum}
use Rattle.rv_exec.specs.Registers.{register}
use Rattle.rv_exec.specs.Class.{class_of}
use Rattle.rv_exec.specs.Effect.{effect_of, access_or_trap, misaligned_atomic, jump, is_taken}
use Rattle.elf_image.specs.Layout.{Setup, fetch}
use Rattle.elf_image.proofs.ValidRows.{row_valid}
use Rattle.rv_hart.specs.declared.reservations.Span.{Span}
use Rattle.rv_hart.specs.declared.steps.Step.{Step}
use Rattle.rv_hart.specs.declared.steps.Step.TheVariants.{Access, ScFails, Trap}
use Rattle.rv_hart.specs.Reservation.{is_conditional, matches}
use Rattle.rv_hart.specs.Call.{a7}
use Rattle.rv_hart.specs.Step.{is_granted, access_fault, meaning_step, row_step, word_step, next_step}
use Rattle.tile_node.proofs.Facts.{in_line}
use Rattle.agreement_laws.proofs.Pending.{number_none}

pub record IsProper (w : Setup) (access : Asked) : Type 0 where
  pub room : access.addr % 64 + access.size ≤ 64
  pub granted : is_granted w access ≡ true

-- what an instruction means asks for an access within a line
record HasRoom (m : Meaning) : Type 0 where
  room : (access : Asked) → m ≡ AccessMeaning access → access.addr % 64 + access.size ≤ 64

no_access : (m : Meaning) → ((access : Asked) → m ≡ AccessMeaning access → ⊥) → HasRoom m
no_access m never = record { room = λ access e. absurd (never access e) }

next_room : (rd value pc : ℕ) → HasRoom (NextMeaning rd value pc)
next_room rd value pc = no_access (NextMeaning rd value pc) (λ access e. cc)

trap_room : (cause : Cause) → HasRoom (TrapMeaning cause)
trap_room cause = no_access (TrapMeaning cause) (λ access e. cc)

if_room : (b : Bool) (m n : Meaning) → HasRoom m → HasRoom n → HasRoom (if b then m else n)
if_room true m n a c = a
if_room false m n a c = c

jump_room : (rd value target : ℕ) → HasRoom (jump rd value target)
jump_room rd value target = if_room (target % 4 == 0) _ _ (next_room rd value target) (trap_room _)

asked_room : (access : Asked) (cause : Cause) → IsTrue (is_size access.size) → HasRoom (access_or_trap access cause)
asked_room access cause sized = by_test (access.addr % access.size == 0) refl where
  by_test : (b : Bool) → (access.addr % access.size == 0) ≡ b → HasRoom (if b then AccessMeaning access else TrapMeaning cause)
  by_test true e =
      let aligned : access.addr % access.size ≡ 0 = grind (arith, nat_tests) in
      let room : access.addr % 64 + access.size ≤ 64 = in_line access.addr access.size sized aligned in
      record { room = λ a same. let q : access ≡ a = cc in subst (λ (z : Asked). z.addr % 64 + z.size ≤ 64) q room }
  by_test false e = trap_room cause

load_size : (op : Op) → IsTrue (is_load op) → IsTrue (is_size (size_of op))
load_size Lb e = refl
load_size Lh e = refl
load_size Lw e = refl
load_size Ld e = refl
load_size Lbu e = refl
load_size Lhu e = refl
load_size Lwu e = refl
load_size _ e = cc

store_size : (op : Op) → IsTrue (is_store op) → IsTrue (is_size (size_of op))
store_size Sb e = refl
store_size Sh e = refl
store_size Sw e = refl
store_size Sd e = refl
store_size _ e = cc

atomic_size : (wide : Bool) → IsTrue (is_size (if wide then 8 else 4))
atomic_size true = refl
atomic_size false = refl

effect_room : (i : Instr) (regs : List ℕ) (pc : ℕ) → IsValid i → HasRoom (effect_of i regs pc)
effect_room (Upper op rd imm) regs pc valid = next_room _ _ _
effect_room (Jal rd imm) regs pc valid = jump_room _ _ _
effect_room (Jalr rd rs1 imm) regs pc valid = jump_room _ _ _
effect_room (Branch op rs1 rs2 imm) regs pc valid = if_room (is_taken op (register regs rs1) (register regs rs2)) _ _ (jump_room 0 0 (wrapping_sum pc imm)) (next_room _ _ _)
effect_room (Load op rd rs1 imm) regs pc valid = asked_room (load_of op rd (wrapping_sum (register regs rs1) imm)) _ (load_size op valid.0)
effect_room (Store op rs1 rs2 imm) regs pc valid = asked_room (store_of op (wrapping_sum (register regs rs1) imm) (register regs rs2)) _ (store_size op valid.0)
effect_room (Imm op rd rs1 imm) regs pc valid = next_room _ _ _
effect_room (Shift op rd rs1 amount) regs pc valid = next_room _ _ _
effect_room (Reg op rd rs1 rs2) regs pc valid = next_room _ _ _
effect_room (Atomic op wide rd rs1 rs2 aq rl) regs pc valid = asked_room (atomic_of op wide rd (register regs rs1) (register regs rs2)) (misaligned_atomic op) (atomic_size wide)
effect_room (Fence rd rs1 imm) regs pc valid = next_room _ _ _
effect_room Ecall regs pc valid = no_access _ (λ access e. cc)
effect_room Ebreak regs pc valid = trap_room _

-- a step that asks for it
asks_it : (w : Setup) (access a : Asked) (trap : Step) (granted lacks : Bool) → is_granted w a ≡ granted → ((b : Asked) → trap ≡ Access b → ⊥)
    → cond (not granted) trap (cond lacks (ScFails a.rd) (Access a)) ≡ Access access → (a ≡ access) × (is_granted w a ≡ true)
asks_it w access a trap false lacks is never e = absurd (never access e)
asks_it w access a trap true true is never e = cc
asks_it w access a trap true false is never e = (cc, is)

meaning_proper : (w : Setup) (regs : List ℕ) (r : Option Span) (u : ℕ) (class : CostClass) (m : Meaning) (access : Asked) → HasRoom m → meaning_step w regs r u class m ≡ Access access → IsProper w access
meaning_proper w regs r u class (NextMeaning rd value pc) access has e = cc
meaning_proper w regs r u class (AccessMeaning a) access has e =
    let made = asks_it w access a (Trap (access_fault a.op)) (is_granted w a) (is_conditional a.op && not (matches r a)) refl (λ b t. cc) e in
    subst (IsProper w) made.0 (record { room = has.room a refl; granted = made.1 })
meaning_proper w regs r u class CallMeaning access has e = absurd ((number_none w regs u (a7 regs)).none access e)
meaning_proper w regs r u class (TrapMeaning cause) access has e = cc

row_proper : (w : Setup) (regs : List ℕ) (pc : ℕ) (r : Option Span) (u : ℕ) (i : Option Instr) (access : Asked) → IfSome i IsValid → row_step w regs pc r u i ≡ Access access → IsProper w access
row_proper w regs pc r u None access valid e = cc
row_proper w regs pc r u (Some i) access valid e = meaning_proper w regs r u (class_of i) (effect_of i regs pc) access (effect_room i regs pc valid) e

word_proper : (w : Setup) (regs : List ℕ) (pc : ℕ) (r : Option Span) (u : ℕ) (word : Option ℕ) (access : Asked) → word_step w regs pc r u word ≡ Access access → IsProper w access
word_proper w regs pc r u None access e = cc
word_proper w regs pc r u (Some word) access e = row_proper w regs pc r u (row word) access (row_valid word) e

pub step_proper : (w : Setup) (regs : List ℕ) (pc : ℕ) (r : Option Span) (u : ℕ) (access : Asked) → next_step w regs pc r u ≡ Access access → IsProper w access
step_proper w regs pc r u access e = word_proper w regs pc r u (fetch w pc) access e
