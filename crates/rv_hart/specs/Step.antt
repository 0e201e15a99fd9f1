-- What a hart does next: its next instruction, up to the memory that it works on. From the RISC-V ISA manual, RV64IMA;
-- who may access what, and what calls do, is this simulator's own. The flat machine and the tiles both take their
-- steps from here.
use Rattle.std.specs.Prelude.{ℕ, Bool, not, List, Option, Some, None, if◌then◌else◌}
use Rattle.sim_base.specs.declared.kinds.CostClass.{CostClass}
use Rattle.sim_base.specs.declared.ends.Cause.{Cause}
use Rattle.sim_base.specs.declared.ends.Cause.TheVariants.{InstrAccess, Illegal, LoadAccess, StoreAccess}
use Rattle.rv_decode.specs.declared.instr.Instr.{Instr}
use Rattle.rv_decode.specs.Table.{row}
use Rattle.rv_exec.specs.declared.meaning.Meaning.{Meaning}
use Rattle.rv_exec.specs.declared.meaning.Meaning.TheVariants.{Next as NextMeaning, Access as AccessMeaning, Call as CallMeaning, Trap as TrapMeaning}
use Rattle.rv_exec.specs.declared.access.AccessOp.{AccessOp}
use Rattle.rv_exec.specs.declared.access.AccessOp.TheVariants.{Load, Store, Lr, Sc, Amo}
use Rattle.rv_exec.specs.Access.{Asked}
use Rattle.rv_exec.specs.Class.{class_of}
use Rattle.rv_exec.specs.Effect.{effect_of}
use Rattle.elf_image.specs.Layout.{Setup, fetch, may}
use Rattle.elf_image.specs.declared.address_map.Right.{Right}
use Rattle.elf_image.specs.declared.address_map.Right.TheVariants.{Read, Write as WriteRight, ReadWrite}
use Rattle.rv_hart.specs.declared.reservations.Span.{Span}
use Rattle.rv_hart.specs.Reservation.{lacks_reservation}
use Rattle.rv_hart.specs.Call.{call_step}
use Rattle.rv_hart.specs.declared.steps.Step.{Step}
use Rattle.rv_hart.specs.declared.steps.Step.TheVariants.{Next, Access, ScFails, Trap}

-- the right that an access needs of its bytes, and the trap where it isn't there
abbrev pub right_of : AccessOp → Right
right_of Load = Read
right_of Store = WriteRight
right_of Lr = Read
right_of Sc = WriteRight
right_of (Amo op) = ReadWrite

abbrev pub access_fault : AccessOp → Cause
access_fault Load = LoadAccess
access_fault Lr = LoadAccess
access_fault _ = StoreAccess

-- whether each byte of an access has the right that it needs
abbrev pub is_granted : Setup → Asked → Bool
is_granted w access = may w access.addr access.size (right_of access.op)

-- an access: its bytes' rights are tested first, then a store-conditional's reservation
abbrev pub access_step : Setup → Option Span → Asked → Step
access_step w reservation access =
    if not (is_granted w access) then Trap (access_fault access.op)
    else (if lacks_reservation reservation access then ScFails access.rd
    else Access access)

-- what an instruction of a class does by what it means, for the thread with this number
abbrev pub meaning_step : Setup → List ℕ → Option Span → ℕ → CostClass → Meaning → Step
meaning_step w regs reservation thread class (NextMeaning rd value pc) = Next class rd value pc
meaning_step w regs reservation thread class (AccessMeaning access) = access_step w reservation access
meaning_step w regs reservation thread class CallMeaning = call_step w regs thread
meaning_step w regs reservation thread class (TrapMeaning cause) = Trap cause

abbrev pub instruction_step : Setup → List ℕ → ℕ → Option Span → ℕ → Instr → Step
instruction_step w regs pc reservation thread instr = meaning_step w regs reservation thread (class_of instr) (effect_of instr regs pc)

-- a word with no row is an illegal instruction
abbrev pub row_step : Setup → List ℕ → ℕ → Option Span → ℕ → Option Instr → Step
row_step w regs pc reservation thread None = Trap Illegal
row_step w regs pc reservation thread (Some instr) = instruction_step w regs pc reservation thread instr

-- an address from which no word can be fetched is a fault of access
abbrev pub word_step : Setup → List ℕ → ℕ → Option Span → ℕ → Option ℕ → Step
word_step w regs pc reservation thread None = Trap InstrAccess
word_step w regs pc reservation thread (Some word) = row_step w regs pc reservation thread (row word)

-- the next step of a hart with these registers, this pc and this reservation, on which the thread with this number
-- runs: the word at the pc is fetched, then decoded, and then the instruction has its effect
abbrev pub next_step : Setup → List ℕ → ℕ → Option Span → ℕ → Step
next_step w regs pc reservation thread = word_step w regs pc reservation thread (fetch w pc)
