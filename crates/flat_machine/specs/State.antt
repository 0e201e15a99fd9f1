-- The states of the flat machine. This simulator's own; registers and pc are those of the RISC-V ISA manual.
use Rattle.std.specs.Prelude.{ℕ, List, [], ◌∷◌, Option, Some, None, slice_get, slice_set}
use Rattle.std.specs.Option.{option_map_or}
use Rattle.std.specs.Ordering.{nat_cmp}
use Rattle.std.specs.FinMap.{FinMap}
use Rattle.sim_base.specs.declared.ends.End.{End}
use Rattle.rv_exec.specs.Registers.{zeros}
use Rattle.rv_hart.specs.Start.{start_registers}
use Rattle.elf_image.specs.Layout.{Setup, heap_start}
use Rattle.serving.specs.declared.control_data.Waiter.{Waiter}
use Rattle.flat_machine.specs.declared.threads.Thread.{Thread}
use Rattle.flat_machine.specs.declared.threads.Status.{Status}
use Rattle.flat_machine.specs.declared.threads.Status.TheVariants.{New, Ready}
use Rattle.flat_machine.specs.Memory.{start_memory}

-- the bytes at the mapped addresses; the threads by number; who is parked at which word, in order of parking; the end
-- of the heap's used part; what was output; and the end if there is one. Threads are numbered from 0 on, and no number
-- is used again
pub record State : Type 0 where
  pub memory : FinMap nat_cmp ℕ
  pub threads : List Thread
  pub waiters : List Waiter
  pub heap_break : ℕ
  pub output : List ℕ
  pub ended : Option End

-- a thread that is to begin at an entry with an argument
abbrev pub new_thread : ℕ → ℕ → Thread
new_thread entry arg = record { regs = zeros; pc = entry; tile = None; reservation = None; joiner = None; status = New entry arg }

-- a thread that begins on a tile
abbrev pub started : Setup → ℕ → ℕ → ℕ → Thread → Thread
started w tile entry arg t =
    record t { regs = start_registers w tile arg; pc = entry; tile = Some tile; reservation = None; status = Ready }

-- the state before the program runs: thread 0 begins on tile 0 at the image's entry with argument 0
abbrev pub start : Setup → State
start w = record {
  memory = start_memory w;
  threads = started w 0 w.image.entry 0 (new_thread w.image.entry 0) ∷ [];
  waiters = [];
  heap_break = heap_start w;
  output = [];
  ended = None;
}

-- the state with another thread of this number
abbrev pub with_thread : State → ℕ → Thread → State
with_thread s number thread = record s { threads = slice_set s.threads number thread }

-- the threads where the one with this number, if there is one, has this status
abbrev pub with_status : List Thread → ℕ → Status → List Thread
with_status threads number status =
    option_map_or (λ t. slice_set threads number (record t { status = status })) (slice_get threads number) threads
