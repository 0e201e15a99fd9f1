-- Serving on the flat machine: by the one definition of serving, from the control data that the state shows. This
-- simulator's own.
use Rattle.std.specs.Prelude.{ℕ, List, [], ◌∷◌, ◌++◌, map, length, nat_lt, if◌then◌else◌, slice_get, true, Option, Some, None, option_and_then}
use Rattle.std.specs.Option.{option_map}
use Rattle.std.specs.Ordering.{nat_cmp}
use Rattle.std.specs.FinMap.{FinMap}
use Rattle.sim_base.specs.declared.ends.End.{End}
use Rattle.sim_base.specs.LittleEndian.{loaded}
use Rattle.elf_image.specs.Layout.{Setup}
use Rattle.wire_msg.specs.declared.calls.Call.TheVariants.{Write, FutexWait}
use Rattle.serving.specs.declared.control_data.Fate.{Fate}
use Rattle.serving.specs.declared.control_data.Fate.TheVariants.{Live, Exited}
use Rattle.serving.specs.declared.control_data.Request.{Request}
use Rattle.serving.specs.declared.control_data.Request.TheVariants.{Call as CallRequest, Exit, Trap}
use Rattle.serving.specs.ControlData.{ControlData}
use Rattle.serving.specs.Serving.{Woken, Born, Own, answer, park, leave, Served, serve}
use Rattle.flat_machine.specs.declared.threads.Thread.{Thread}
use Rattle.flat_machine.specs.declared.threads.Status.{Status}
use Rattle.flat_machine.specs.declared.threads.Status.TheVariants.{Writing, Asked, Parked, Answered, Left, Trapped, Gone}
use Rattle.flat_machine.specs.Memory.{byte_at}
use Rattle.flat_machine.specs.State.{State, new_thread, with_status}

-- a thread's fate, by its status: it is live until its exit was served
abbrev pub fate_by : Option ℕ → Status → Fate
fate_by joiner (Gone code joined) = Exited code joined
fate_by joiner _ = Live joiner

abbrev pub fate_of : Thread → Fate
fate_of t = fate_by t.joiner t.status

-- the control data, seen in the state
abbrev pub control_of : State → ControlData
control_of s = record { fates = map fate_of s.threads; waiters = s.waiters; heap_break = s.heap_break; output = s.output; ended = s.ended }

-- what a thread asks to be served, by its status: a write whose bytes are all read, a call, its exit or its trap
abbrev pub request_of : Status → Option Request
request_of (Writing addr len bytes) = if nat_lt (length bytes) len then None else Some (CallRequest (Write bytes))
request_of (Asked call) = Some (CallRequest call)
request_of (Left code) = Some (Exit code)
request_of (Trapped cause pc) = Some (Trap cause pc)
request_of _ = None

abbrev pub request_at : State → ℕ → Option Request
request_at s number = option_and_then (λ t. request_of t.status) (slice_get s.threads number)

-- the number in the four bytes that a futex wait looks at
abbrev pub word_of : FinMap nat_cmp ℕ → Request → ℕ
word_of memory (CallRequest (FutexWait addr value)) = loaded (byte_at memory) addr 4
word_of memory _ = 0

-- threads by their fates. Who is parked joining a thread that has exited doesn't count any more
abbrev pub with_fate : Thread → Fate → Thread
with_fate t (Exited code joined) = record t { status = Gone code joined }
with_fate t (Live joiner) = record t { joiner = joiner }

abbrev pub with_fates : List Thread → List Fate → List Thread
with_fates [] fates = []
with_fates (t ∷ ts) [] = t ∷ ts
with_fates (t ∷ ts) (fate ∷ fates) = with_fate t fate ∷ with_fates ts fates

-- who is born
abbrev pub born_threads : Option Born → List Thread
born_threads None = []
born_threads (Some b) = new_thread b.entry b.arg ∷ []

-- the threads where those that are woken have their answers
abbrev pub woken_threads : List Woken → List Thread → List Thread
woken_threads [] threads = threads
woken_threads (w ∷ ws) threads = woken_threads ws (with_status threads w.thread (Answered w.value))

-- the caller's own part
abbrev pub with_own : List Thread → ℕ → Own → List Thread
with_own threads number (answer value) = with_status threads number (Answered value)
with_own threads number park = with_status threads number Parked
with_own threads number leave = threads

-- the state by what serving a thread made: the threads by their fates, then who is born, who is woken, and last the
-- caller's own part
unfoldable pub after_serving : State → ℕ → Served → State
after_serving s number made = record {
  memory = s.memory;
  threads = with_own (woken_threads made.woken (with_fates s.threads made.control.fates ++ born_threads made.born)) number made.own;
  waiters = made.control.waiters;
  heap_break = made.control.heap_break;
  output = made.control.output;
  ended = made.control.ended;
}

-- the state after a thread's request is served. A live thread has at most one request, so no other one waits
abbrev pub after_request : Setup → State → ℕ → Request → State
after_request w s number request = after_serving s number (serve w (control_of s) number request (word_of s.memory request) true)

-- nothing is served after the end
abbrev pub served_before : Option End → Setup → State → ℕ → Option State
served_before (Some end) w s number = None
served_before None w s number = option_map (after_request w s number) (request_at s number)

-- the state after the request of the thread with this number is served; none where there is an end, no such thread, or
-- no request
abbrev pub served : Setup → State → ℕ → Option State
served w s number = served_before s.ended w s number
