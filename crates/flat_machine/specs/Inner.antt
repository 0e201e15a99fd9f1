-- Words of this crate's private functions, which no promise to others needs: memory kept as contiguous regions, what an
-- instruction gives on one thread, a thread's one action by its status, and parts of serving.
use Rattle.std.specs.Prelude.{ℕ, ◌≡◌, ◌<◌, ◌≤◌, ◌+◌, ◌-◌, ◌^◌, Bool, ◌&&◌, ◌||◌, true, nat_le, nat_lt, List, [], ◌∷◌, ◌++◌, length, map, replicate, if◌then◌else◌, slice_get, slice_index, slice_set, Option, Some, None, unwrap_or, Result, Ok, Err}
use Rattle.std.specs.List.{flat_map, list_all, range_with_len}
use Rattle.std.specs.Option.{option_map_or}
use Rattle.std.specs.Ordering.{nat_cmp}
use Rattle.std.specs.FinMap.{FinMap, from_entries}
use Rattle.sim_base.specs.declared.actions.Action.{Action}
use Rattle.sim_base.specs.declared.actions.Action.TheVariants.{Exec, FailSc, Load, Serve, Return, Begin}
use Rattle.sim_base.specs.declared.ends.End.{End}
use Rattle.elf_image.specs.declared.program.Segment.{Segment}
use Rattle.elf_image.specs.Layout.{Setup, heap_start, stack_start}
use Rattle.rv_hart.specs.declared.reservations.Span.{Span}
use Rattle.rv_hart.specs.declared.steps.Step.{Step}
use Rattle.rv_hart.specs.declared.steps.Step.TheVariants.{Next, ScFails}
use Rattle.serving.specs.declared.control_data.Fate.{Fate}
use Rattle.serving.specs.declared.control_data.Waiter.{Waiter}
use Rattle.serving.specs.ControlData.{is_waiting, is_joining, live_from}
use Rattle.serving.specs.Serving.{Served, with_end, closed_end}
use Rattle.flat_machine.specs.declared.regions.Region.{Region}
use Rattle.flat_machine.specs.declared.threads.Thread.{Thread}
use Rattle.flat_machine.specs.declared.threads.Status.{Status}
use Rattle.flat_machine.specs.declared.threads.Status.TheVariants.{Ready, Writing, Asked, Answered, Left, Trapped}
use Rattle.flat_machine.specs.declared.machine.ActFault.{ActFault}
use Rattle.flat_machine.specs.declared.machine.ActFault.TheVariants.{NotLegal, NoMemory}
use Rattle.flat_machine.specs.State.{State}
use Rattle.flat_machine.specs.Action.{Change, conditional_rd, step_of}
use Rattle.flat_machine.specs.Serving.{after_serving, control_of}

-- whether an address is one of the len addresses from start on
abbrev pub has_address : ℕ → ℕ → ℕ → Bool
has_address start len address = nat_le start address && nat_lt (address - start) len

-- a region's addresses, each with its byte
abbrev pub cells : ℕ → List ℕ → List (ℕ × ℕ)
cells start [] = []
cells start (byte ∷ bytes) = (start, byte) ∷ cells (start + 1) bytes

-- the memory that the regions make: where two have an address, the first one's byte counts
unfoldable pub memory_of : List Region → FinMap nat_cmp ℕ
memory_of regions = from_entries (flat_map (λ r. cells r.start r.bytes) regions)

-- no region has an address from 2^64 on
abbrev pub AreLow : List Region → Type 0
AreLow [] = Unit {0}
AreLow (r ∷ rs) = (r.start + length r.bytes ≤ 2 ^ 64) × AreLow rs

-- the byte of the first region that has the address
abbrev pub found : List Region → ℕ → Option ℕ
found [] address = None
found (r ∷ rs) address =
    if has_address r.start (length r.bytes) address then Some (slice_index r.bytes (address - r.start)) else found rs address

abbrev pub byte_of : List Region → ℕ → ℕ
byte_of regions address = unwrap_or (found regions address) 0

-- the regions with another byte at an address: the first region that has it is written
abbrev pub with_byte_in : List Region → ℕ → ℕ → List Region
with_byte_in [] address byte = []
with_byte_in (r ∷ rs) address byte =
    if has_address r.start (length r.bytes) address then record r { bytes = slice_set r.bytes (address - r.start) byte } ∷ rs
    else r ∷ with_byte_in rs address byte

-- a segment's bytes of the file, and zeros up to its size in memory
abbrev pub segment_region : Segment → Region
segment_region s = record { start = s.vaddr; bytes = s.bytes ++ replicate (s.memsz - length s.bytes) 0 }

-- so many zeros from an address on
abbrev pub zeros_from : ℕ → ℕ → Region
zeros_from start len = record { start = start; bytes = replicate len 0 }

-- the stack of a tile
abbrev pub stack_region : Setup → ℕ → Region
stack_region w tile = zeros_from (stack_start w tile) w.config.stack_bytes

-- the segments, the heap window and the stacks
abbrev pub start_regions : Setup → List Region
start_regions w =
    map segment_region w.image.segments ++ zeros_from (heap_start w) w.config.heap_bytes ∷ []
    ++ map (stack_region w) (range_with_len 0 w.config.tiles)

-- the register that a step gives a value has a number below 32. Accesses know it of themselves
abbrev pub HasRegister : Step → Type 0
HasRegister (Next class rd value pc) = rd < 32
HasRegister (ScFails rd) = rd < 32
HasRegister _ = Unit {0}

-- what an instruction gives, whose answer has the bytes that were written: Ok where it is legal, and it has made the
-- change; NotLegal exactly where it isn't; want of memory is free. Nothing changes but at Ok
abbrev pub Executes : Result (Option Span) ActFault → FinMap nat_cmp ℕ → FinMap nat_cmp ℕ → Thread → Thread → Option Change → Type 0
Executes (Ok written) old_memory memory old_thread thread next = next ≡ Some (record { memory = memory; written = written; thread = thread })
Executes (Err NotLegal) old_memory memory old_thread thread next = (next ≡ None) × (memory ≡ old_memory) × (thread ≡ old_thread)
Executes (Err NoMemory) old_memory memory old_thread thread next = (memory ≡ old_memory) × (thread ≡ old_thread)

-- the thread that an action is about
abbrev pub thread_of : Action → ℕ
thread_of (Exec number) = number
thread_of (FailSc number) = number
thread_of (Load number) = number
thread_of (Serve number) = number
thread_of (Return number) = number
thread_of (Begin number tile) = number

-- the one action of thread 0, alone in a machine, by its status: nothing is served after the end
abbrev pub serve_before : Option End → Option Action
serve_before None = Some (Serve 0)
serve_before (Some end) = None

abbrev pub exec_unless : Option ℕ → Option Action
exec_unless None = Some (Exec 0)
exec_unless (Some rd) = None

abbrev pub action_by : Setup → Thread → Option End → Status → Option Action
action_by w t ended Ready = exec_unless (conditional_rd (step_of w 0 t))
action_by w t ended (Writing addr len bytes) = if nat_lt (length bytes) len then Some (Load 0) else serve_before ended
action_by w t ended (Asked call) = serve_before ended
action_by w t ended (Answered value) = Some (Return 0)
action_by w t ended (Left code) = serve_before ended
action_by w t ended (Trapped cause pc) = serve_before ended
action_by w t ended _ = None

abbrev pub action_of : Setup → List Thread → Option End → Option Action
action_of w (t ∷ []) ended = action_by w t ended t.status
action_of w _ ended = None

-- thread 0 is there and ready, and no other is there
abbrev pub IsAloneReady : State → Type 0
IsAloneReady s = (t : Thread) × (s.threads ≡ t ∷ []) × (t.status ≡ Ready)

-- the state after what serving made, with the end that follows, where no other request waits
abbrev pub concluded : State → ℕ → Served → State
concluded s number made = after_serving s number (with_end true made)

-- the threads where somebody, or nobody, is parked joining the one with this number
abbrev pub with_joiner : List Thread → ℕ → Option ℕ → List Thread
with_joiner threads number joiner =
    option_map_or (λ t. slice_set threads number (record t { joiner = joiner })) (slice_get threads number) threads

-- the state with the end that the closing leaves
abbrev pub with_closing : State → State
with_closing s = record s { ended = closed_end true (control_of s) }

-- whether a thread is parked, and whether all live threads are, by fates and waiters
abbrev pub is_parked_by : List Fate → List Waiter → ℕ → Bool
is_parked_by fates waiters thread = is_waiting waiters thread || is_joining fates thread

abbrev pub are_all_parked_by : List Fate → List Waiter → Bool
are_all_parked_by fates waiters = list_all (is_parked_by fates waiters) (live_from 0 fates)
