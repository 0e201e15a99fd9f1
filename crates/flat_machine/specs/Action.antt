-- The actions of the flat machine, each a partial function: none means that it isn't legal. From the RISC-V ISA manual
-- and this simulator's own rules, as the next step of a hart has them.
use Rattle.std.specs.Prelude.{ℕ, ◌≡◌, ◌+◌, ◌%◌, ◌^◌, ◌==◌, ◌&&◌, Bool, true, false, not, [], ◌∷◌, ◌++◌, length, nat_lt, if◌then◌else◌, Option, Some, None, option_and_then, slice_get, slice_set}
use Rattle.std.specs.List.{list_any}
use Rattle.std.specs.Option.{option_map}
use Rattle.std.specs.Ordering.{nat_cmp}
use Rattle.std.specs.FinMap.{FinMap}
use Rattle.sim_base.specs.declared.actions.Action.{Action}
use Rattle.sim_base.specs.declared.actions.Action.TheVariants.{Exec, FailSc, Load, Serve, Return, Begin}
use Rattle.sim_base.specs.declared.ends.Cause.{Cause}
use Rattle.sim_base.specs.LittleEndian.{loaded as loaded_number, stored}
use Rattle.rv_exec.specs.declared.access.Done.{Done}
use Rattle.rv_exec.specs.Access.{Asked as AccessAsked, finish_of}
use Rattle.rv_exec.specs.Registers.{with_register}
use Rattle.elf_image.specs.Layout.{Setup}
use Rattle.rv_hart.specs.declared.reservations.Span.{Span}
use Rattle.rv_hart.specs.declared.steps.Step.{Step}
use Rattle.rv_hart.specs.declared.steps.Step.TheVariants.{Next, Access, ScFails, Answer, Ask, Write, Exit, Trap}
use Rattle.rv_hart.specs.Start.{next_pc, with_answer}
use Rattle.rv_hart.specs.Reservation.{span_of, reserved, is_conditional}
use Rattle.rv_hart.specs.Step.{next_step}
use Rattle.flat_machine.specs.declared.threads.Thread.{Thread}
use Rattle.flat_machine.specs.declared.threads.Status.{Status}
use Rattle.flat_machine.specs.declared.threads.Status.TheVariants.{New, Ready, Writing, Asked, Answered, Left, Trapped}
use Rattle.flat_machine.specs.Memory.{byte_at, with_byte}
use Rattle.flat_machine.specs.State.{State, started, with_thread}
use Rattle.flat_machine.specs.Reservation.{others_end}
use Rattle.flat_machine.specs.Serving.{served}

-- the next step of the hart on which this thread runs
abbrev pub step_of : Setup → ℕ → Thread → Step
step_of w number t = next_step w t.regs t.pc t.reservation number

-- what an instruction changes: the memory, with the bytes that were written if any, and its thread
pub record Change : Type 0 where
  pub memory : FinMap nat_cmp ℕ
  pub written : Option Span
  pub thread : Thread

-- a change of the thread alone
abbrev pub thread_change : FinMap nat_cmp ℕ → Thread → Change
thread_change memory thread = record { memory = memory; written = None; thread = thread }

-- rd gets a value, and the thread goes on behind the instruction
abbrev pub passed : Thread → ℕ → ℕ → Thread
passed t rd value = record t { regs = with_register t.regs rd value; pc = next_pc t.pc }

-- a0 gets the answer of a call, and the thread goes on behind it
abbrev pub past_call : Thread → ℕ → Thread
past_call t value = record t { regs = with_answer t.regs value; pc = next_pc t.pc; status = Ready }

-- the memory after an access that writes a number, or nothing, and the bytes that it wrote
abbrev pub written_memory : FinMap nat_cmp ℕ → AccessAsked → Option ℕ → FinMap nat_cmp ℕ
written_memory memory access None = memory
written_memory memory access (Some value) = stored with_byte memory access.addr access.size value

abbrev pub written_span : AccessAsked → Option ℕ → Option Span
written_span access None = None
written_span access (Some value) = Some (span_of access)

-- an access that is done
abbrev pub completed : FinMap nat_cmp ℕ → Thread → AccessAsked → Done → Change
completed memory t access done = record {
  memory = written_memory memory access done.write;
  written = written_span access done.write;
  thread = record (passed t access.rd done.value) { reservation = reserved access t.reservation };
}

-- an access works on the number that its bytes hold
abbrev pub accessed : FinMap nat_cmp ℕ → Thread → AccessAsked → Change
accessed memory t access = completed memory t access (finish_of access (loaded_number (byte_at memory) access.addr access.size))

-- what a thread's next step changes. A store-conditional without its reservation can only fail, which is another
-- action. A write begins with no bytes read, a thread that exits leaves its tile, and one that traps stays where it is
abbrev pub executed_by_step : FinMap nat_cmp ℕ → Thread → Step → Option Change
executed_by_step memory t (Next class rd value pc) = Some (thread_change memory (record t { regs = with_register t.regs rd value; pc = pc }))
executed_by_step memory t (Access access) = Some (accessed memory t access)
executed_by_step memory t (ScFails rd) = None
executed_by_step memory t (Answer value) = Some (thread_change memory (past_call t value))
executed_by_step memory t (Ask call) = Some (thread_change memory (record t { status = Asked call }))
executed_by_step memory t (Write addr len) = Some (thread_change memory (record t { status = Writing addr len [] }))
executed_by_step memory t (Exit code) = Some (thread_change memory (record t { tile = None; status = Left code }))
executed_by_step memory t (Trap cause) = Some (thread_change memory (record t { status = Trapped cause t.pc }))

-- a ready thread executes its next instruction
abbrev pub executed_by : Setup → FinMap nat_cmp ℕ → ℕ → Thread → Status → Option Change
executed_by w memory number t Ready = executed_by_step memory t (step_of w number t)
executed_by w memory number t _ = None

abbrev pub executed : Setup → FinMap nat_cmp ℕ → ℕ → Thread → Option Change
executed w memory number t = executed_by w memory number t t.status

-- the register that a store-conditional answers in, where the step is one: with its reservation or without
abbrev pub conditional_rd : Step → Option ℕ
conditional_rd (ScFails rd) = Some rd
conditional_rd (Access access) = if is_conditional access.op then Some access.rd else None
conditional_rd _ = None

-- a store-conditional of a ready thread fails: rd gets 1, nothing is written, and the reservation ends
abbrev pub failed_conditional : Thread → ℕ → Thread
failed_conditional t rd = record (passed t rd 1) { reservation = None }

abbrev pub failed_by : Setup → ℕ → Thread → Status → Option Thread
failed_by w number t Ready = option_map (failed_conditional t) (conditional_rd (step_of w number t))
failed_by w number t _ = None

abbrev pub failed : Setup → ℕ → Thread → Option Thread
failed w number t = failed_by w number t t.status

-- a write with bytes still to read reads the next one; addresses go on at 0 past 2^64 - 1
abbrev pub loaded_by : FinMap nat_cmp ℕ → Thread → Status → Option Thread
loaded_by memory t (Writing addr len bytes) =
    if nat_lt (length bytes) len
    then Some (record t { status = Writing addr len (bytes ++ byte_at memory ((addr + length bytes) % 2 ^ 64) ∷ []) })
    else None
loaded_by memory t _ = None

abbrev pub loaded : FinMap nat_cmp ℕ → Thread → Option Thread
loaded memory t = loaded_by memory t t.status

-- a thread with an answer takes it
abbrev pub returned_by : Thread → Status → Option Thread
returned_by t (Answered value) = Some (past_call t value)
returned_by t _ = None

abbrev pub returned : Thread → Option Thread
returned t = returned_by t t.status

-- whether a thread stands on a tile
abbrev pub is_at : ℕ → Option ℕ → Bool
is_at tile None = false
is_at tile (Some place) = place == tile

abbrev pub stands_on : ℕ → Thread → Bool
stands_on tile t = is_at tile t.tile

-- a tile of the machine that no thread stands on
abbrev pub is_vacant : Setup → State → ℕ → Bool
is_vacant w s tile = nat_lt tile w.config.tiles && not (list_any (stands_on tile) s.threads)

-- a new thread begins on a vacant tile
abbrev pub begun_by : Setup → ℕ → Thread → Bool → Status → Option Thread
begun_by w tile t true (New entry arg) = Some (started w tile entry arg t)
begun_by w tile t vacant status = None

abbrev pub begun : Setup → State → ℕ → Thread → Option Thread
begun w s tile t = begun_by w tile t (is_vacant w s tile) t.status

-- the state with a change by the thread of this number: the others lose their reservations of what it wrote
abbrev pub with_change : State → ℕ → Change → State
with_change s number change = record s {
  memory = change.memory;
  threads = others_end change.written (slice_set s.threads number change.thread) number;
}

-- the state in which the thread with this number has made its move, where there is such a thread and the
-- move is legal
abbrev pub with_move : State → ℕ → (Thread → Option Thread) → Option State
with_move s number move = option_map (with_thread s number) (option_and_then move (slice_get s.threads number))

-- the state in which the thread with this number has executed its next instruction
abbrev pub with_instruction : Setup → State → ℕ → Option State
with_instruction w s number = option_map (with_change s number) (option_and_then (executed w s.memory number) (slice_get s.threads number))

-- the state after an action; none where it isn't legal
abbrev pub act : Setup → State → Action → Option State
act w s (Exec number) = with_instruction w s number
act w s (FailSc number) = with_move s number (failed w number)
act w s (Load number) = with_move s number (loaded s.memory)
act w s (Serve number) = served w s number
act w s (Return number) = with_move s number returned
act w s (Begin number tile) = with_move s number (begun w s tile)

-- in this state the thread with this number is ready at this pc, and its instruction there traps with this cause
pub record IsTrapping (w : Setup) (s : State) (number : ℕ) (cause : Cause) (pc : ℕ) : Type 0 where
  pub thread : Thread
  pub is_thread : slice_get s.threads number ≡ Some thread
  pub is_ready : thread.status ≡ Ready
  pub is_there : thread.pc ≡ pc
  pub traps : step_of w number thread ≡ Trap cause
