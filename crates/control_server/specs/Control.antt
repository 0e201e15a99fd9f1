-- The control server: it serves the threads' requests one by one, in the order in which they came. After Graphite's
-- master control program (HPCA 2010).
use Rattle.std.specs.Prelude.{ℕ, ◌+◌, ◌-◌, ◌%◌, ◌^◌, ◌<◌, ◌≤◌, ◌≡◌, ◌==◌, ◌&&◌, ◌||◌, not, Bool, true, false, List, [], ◌∷◌, length, map, filter, count_by, slice_get, if◌then◌else◌, Option, Some, None, All}
use Rattle.std.specs.List.{list_any, range_with_len}
use Rattle.std.specs.Option.{option_map_or}
use Rattle.sim_base.specs.declared.actions.Action.{Action}
use Rattle.sim_base.specs.declared.settings.Config.{Config}
use Rattle.sim_base.specs.Numbering.{node_count, host_of}
use Rattle.elf_image.specs.Layout.{Setup, heap_start}
use Rattle.wire_msg.specs.declared.calls.Call.{Call as CallData}
use Rattle.wire_msg.specs.declared.calls.Call.TheVariants.{FutexWait}
use Rattle.wire_msg.specs.declared.messages.Msg.{Msg}
use Rattle.serving.specs.declared.control_data.Request.{Request}
use Rattle.serving.specs.declared.control_data.Request.TheVariants.{Call as CallRequest}
use Rattle.serving.specs.ControlData.{ControlData, start_data, is_live, is_joiner, is_parked}
use Rattle.clock_policy.specs.Epoch.{Epoch, start_epoch}

-- a request that waits to be served: its thread, the node that sent it, the thread's clock then, and what is asked
pub record Waiting : Type 0 where
  pub thread : ℕ
  pub from : ℕ
  pub time : ℕ
  pub request : Request

-- a futex wait whose word is being read: its thread, the tile that sent it, the word's address, and the value waited at
pub record Check : Type 0 where
  pub thread : ℕ
  pub from : ℕ
  pub addr : ℕ
  pub value : ℕ

-- the control server: the control data; the requests that wait, in order; the futex wait that is being checked; each
-- thread's tile by its last call; how many tiles of each host are free; the epochs of the barrier; and whether it is
-- spent, as it is once memory ran out in a call
pub record Control : Type 0 where
  pub control : ControlData
  pub backlog : List Waiting
  pub checking : Option Check
  pub callers : List ℕ
  pub free : List ℕ
  pub epochs : Epoch
  pub spent : Bool

-- how many tiles a host has, and how many of them are free before the program runs: all but tile 0
abbrev pub tiles_of : Config → ℕ → ℕ
tiles_of c host = count_by (λ tile. host_of c tile == host) (range_with_len 0 c.tiles)

abbrev pub free_at_start : Config → ℕ → ℕ
free_at_start c host = tiles_of c host - (if host == 0 then 1 else 0)

-- before the program runs
abbrev pub start_control : Setup → Control
start_control w = record {
  control = start_data (heap_start w);
  backlog = [];
  checking = None;
  callers = 0 ∷ [];
  free = map (free_at_start w.config) (range_with_len 0 w.config.hosts);
  epochs = start_epoch w.config.quantum;
  spent = false;
}

-- what the control server does in an event: the server afterwards, what it sends, with the receivers, and the action of
-- the flat machine that it commits, if it does
pub record Act : Type 0 where
  pub control : Control
  pub mail : List (ℕ × Msg)
  pub action : Option Action

-- nothing changes
abbrev pub quiet : Control → Act
quiet c = record { control = c; mail = []; action = None }

-- whether a thread is live; whether it is active: live and not parked
abbrev pub is_live_thread : ControlData → ℕ → Bool
is_live_thread c thread = option_map_or is_live (slice_get c.fates thread) false

abbrev pub is_active : ControlData → ℕ → Bool
is_active c thread = is_live_thread c thread && not (is_parked c thread)

-- the active threads, in ascending order
abbrev pub active_threads : ControlData → List ℕ
active_threads c = filter (is_active c) (range_with_len 0 (length c.fates))

-- in how many places a thread is parked: at words, and joining others
abbrev pub parkings : ControlData → ℕ → ℕ
parkings c thread = count_by (λ w. w.thread == thread) c.waiters + count_by (is_joiner thread) c.fates

-- a live thread is parked in one place at most, and another number nowhere
abbrev pub AreParkedOnce : ControlData → Type 0
AreParkedOnce c = (thread : ℕ) → parkings c thread ≤ (if is_live_thread c thread then 1 else 0)

-- whether a thread has a request at the control server: it waits, or is being checked
abbrev pub waits : ℕ → Waiting → Bool
waits thread q = q.thread == thread

abbrev pub is_checked : ℕ → Option Check → Bool
is_checked thread None = false
is_checked thread (Some check) = check.thread == thread

abbrev pub has_request : Control → ℕ → Bool
has_request c thread = list_any (waits thread) c.backlog || is_checked thread c.checking

-- whether a request can be one of a run: a futex wait's word has an address that is a multiple of 4
abbrev pub is_placed : CallData → Bool
is_placed (FutexWait addr value) = addr % 4 == 0
is_placed _ = true

abbrev pub is_placed_request : Request → Bool
is_placed_request (CallRequest call) = is_placed call
is_placed_request _ = true

-- what is known of a request that waits: its thread is active, a node sent it, and a futex wait's word is placed
pub record IsAsked (w : Setup) (kept : ControlData) (q : Waiting) : Type 0 where
  pub active : is_active kept q.thread ≡ true
  pub sender : q.from < node_count w.config
  pub placed : is_placed_request q.request ≡ true

-- no thread has two of these requests
abbrev pub AreApart : List Waiting → Type 0
AreApart [] = Unit {0}
AreApart (q ∷ rest) = (list_any (waits q.thread) rest ≡ false) × AreApart rest

-- what is known of a futex wait that is being checked: the same, and its thread has no other request
pub record IsCheckable (w : Setup) (kept : ControlData) (backlog : List Waiting) (check : Check) : Type 0 where
  pub active : is_active kept check.thread ≡ true
  pub sender : check.from < node_count w.config
  pub placed : check.addr % 4 ≡ 0
  pub alone : list_any (waits check.thread) backlog ≡ false

abbrev pub IsCheckableIfAny : Setup → ControlData → List Waiting → Option Check → Type 0
IsCheckableIfAny w kept backlog None = Unit {0}
IsCheckableIfAny w kept backlog (Some check) = IsCheckable w kept backlog check

-- what is known of a control server whose memory lasts: it has a count for each host and a tile for each thread; threads
-- have numbers of 32 bits; each is parked in one place at most; the epoch's members are the active threads, in ascending
-- order; and no thread has two of the requests that wait or are being checked
pub record IsOrderly (w : Setup) (c : Control) : Type 0 where
  pub hosts : length c.free ≡ w.config.hosts
  pub numbers : length c.control.fates < 2 ^ 32
  pub threads : length c.callers ≡ length c.control.fates
  pub parked : AreParkedOnce c.control
  pub members : map (λ m. m.thread) c.epochs.members ≡ active_threads c.control
  pub asked : All (IsAsked w c.control) c.backlog
  pub apart : AreApart c.backlog
  pub checked : IsCheckableIfAny w c.control c.backlog c.checking

-- what is known of every control server: one whose memory ran out serves nothing any more
pub record IsInOrder (w : Setup) (c : Control) : Type 0 where
  pub orderly : c.spent ≡ false → IsOrderly w c
