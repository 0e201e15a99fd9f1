-- What messages say of threads: which thread one names, and, by kind, what a thread asks, how it is answered, how it
-- begins and ends, and the limits of its epochs. Laws of threads speak of these views. This simulator's own.
use Rattle.std.specs.Prelude.{ℕ, ◌==◌, Bool, true, false, List, filter, Option, Some, None}
use Rattle.std.specs.Option.{option_map_or}
use Rattle.sim_base.specs.declared.ends.Cause.{Cause}
use Rattle.wire_msg.specs.declared.calls.Call.{Call as CallOf}
use Rattle.wire_msg.specs.declared.messages.Msg.{Msg}
use Rattle.wire_msg.specs.declared.messages.Msg.TheVariants.{Call, Return, Start, Exit, Trapped, Reached, Limit}

-- whether a message is about a thread: neither about a line nor a probe
abbrev pub is_of_threads : Msg → Bool
is_of_threads (Call thread time call) = true
is_of_threads (Return value time limit) = true
is_of_threads (Start thread entry arg time limit) = true
is_of_threads (Exit thread code time) = true
is_of_threads (Trapped thread cause pc) = true
is_of_threads (Reached thread) = true
is_of_threads (Limit limit) = true
is_of_threads _ = false

-- the thread that a message names; answers and limits name none
abbrev pub thread_named : Msg → Option ℕ
thread_named (Call thread time call) = Some thread
thread_named (Start thread entry arg time limit) = Some thread
thread_named (Exit thread code time) = Some thread
thread_named (Trapped thread cause pc) = Some thread
thread_named (Reached thread) = Some thread
thread_named _ = None

abbrev pub names : ℕ → Msg → Bool
names thread msg = option_map_or (λ n. n == thread) (thread_named msg) false

-- the messages about threads of a list, and those that name one thread
abbrev pub of_threads : List Msg → List Msg
of_threads msgs = filter is_of_threads msgs

abbrev pub naming : ℕ → List Msg → List Msg
naming thread msgs = filter (names thread) msgs

-- what a thread asks of the control server: a call, at its tile's clock; or that it be ended, by a trap
pub data Demand : Type 0 where
  calls : ℕ → ℕ → CallOf → Demand
  traps : ℕ → Cause → ℕ → Demand

abbrev pub demand_in : Msg → Option Demand
demand_in (Call thread time call) = Some (calls thread time call)
demand_in (Trapped thread cause pc) = Some (traps thread cause pc)
demand_in _ = None

-- the answer to a call: its value and time, and the limit of the present epoch
pub record Answer : Type 0 where
  pub value : ℕ
  pub time : ℕ
  pub limit : ℕ

abbrev pub answer_in : Msg → Option Answer
answer_in (Return value time limit) = Some (record { value = value; time = time; limit = limit })
answer_in _ = None

-- how a thread begins: at an entry with an argument, at a time and with a limit
pub record Beginning : Type 0 where
  pub thread : ℕ
  pub entry : ℕ
  pub arg : ℕ
  pub time : ℕ
  pub limit : ℕ

abbrev pub beginning_in : Msg → Option Beginning
beginning_in (Start thread entry arg time limit) = Some (record { thread = thread; entry = entry; arg = arg; time = time; limit = limit })
beginning_in _ = None

-- how it ends by itself: with a code, at a time
pub record Ending : Type 0 where
  pub thread : ℕ
  pub code : ℕ
  pub time : ℕ

abbrev pub ending_in : Msg → Option Ending
ending_in (Exit thread code time) = Some (record { thread = thread; code = code; time = time })
ending_in _ = None

-- the thread that is reported to be at its limit, and the next limit
abbrev pub report_in : Msg → Option ℕ
report_in (Reached thread) = Some thread
report_in _ = None

abbrev pub limit_in : Msg → Option ℕ
limit_in (Limit limit) = Some limit
limit_in _ = None
