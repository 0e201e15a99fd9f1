-- Where a thread can be: its phase, and what it is on the flat machine there. This simulator's own.
use Rattle.std.specs.Prelude.{ℕ, Bool, List, Option, Some, None}
use Rattle.sim_base.specs.declared.ends.Cause.{Cause}
use Rattle.rv_exec.specs.Access.{Asked}
use Rattle.wire_msg.specs.declared.calls.Call.{Call as CallOf}
use Rattle.wire_msg.specs.declared.calls.Call.TheVariants.{Write}
use Rattle.flat_machine.specs.declared.threads.Status.{Status as FlatStatus}
use Rattle.flat_machine.specs.declared.threads.Status.TheVariants.{Ready, Writing as FlatWriting, Asked as FlatAsked}
use Rattle.tile_core.specs.Gathering.{Gathering}

-- a thread's place and what it has there
pub record Hart : Type 0 where
  pub tile : ℕ
  pub regs : List ℕ
  pub pc : ℕ

-- what its tile does for it: it executes, or reads the bytes of a write
pub data Work : Type 0 where
  executes : Work
  gathers : Gathering → Work

-- what became of a report that the limit is reached: it is on its way; it is noted; the next limit is on its way; it came
-- after the end
pub data Report : Type 0 where
  on_way : Report
  noted : Report
  limited : (limit : ℕ) → Report
  unheard : Report

pub data Going : Type 0 where
  runs : Going
  misses : Asked → Going
  writes : Gathering → Going
  misses_byte : Gathering → Going
  stops : Work → Report → Going
  probes : Work → (partner replies : ℕ) → Going

-- what a thread asks for, and how it came to that: a call, or a write whose bytes are all read
pub data Ask : Type 0 where
  plainly : CallOf → Ask
  by_write : Gathering → Ask

-- why it is parked: at a word, or until a thread ends
pub data Key : Type 0 where
  word : (addr : ℕ) → Key
  ending : (target : ℕ) → Key

pub data Phase : Type 0 where
  unborn : Phase
  sent : (host entry arg time limit : ℕ) → Phase  -- its Start is on its way to the host's local server
  given : (tile entry arg time limit : ℕ) → Phase  -- and from there to a tile
  on : Hart → Going → Phase  -- it is on its tile
  calling : Hart → Ask → (time : ℕ) → Phase  -- its Call is on its way
  asking : Hart → Ask → (time : ℕ) → Phase  -- and waits
  checking : Hart → (addr value : ℕ) → Phase  -- its futex wait is being checked
  waits : Hart → Key → Phase  -- it is parked
  lost : Hart → Ask → Phase  -- its Call came after the end, or made it
  told : Hart → (value time limit : ℕ) → Phase  -- its Return is on its way
  traps : Hart → Cause → Phase  -- its Trapped is on its way
  trapping : Hart → Cause → Phase  -- and waits
  trapped : Hart → Cause → Phase  -- it came after the end, or made it
  leaving : (tile code time : ℕ) → Phase  -- its Exit is on its way to the local server of its host
  passing : (host code time : ℕ) → Phase  -- and from there to the control server
  exiting : (host code time : ℕ) → Phase  -- and waits
  vanished : (code : ℕ) → Phase  -- it came after the end
  over : (code : ℕ) → (joined : Bool) → Phase

abbrev pub tile_of : Phase → Option ℕ
tile_of unborn = None
tile_of (sent host entry arg time limit) = None
tile_of (given tile entry arg time limit) = Some tile
tile_of (on h going) = Some h.tile
tile_of (calling h ask time) = Some h.tile
tile_of (asking h ask time) = Some h.tile
tile_of (checking h addr value) = Some h.tile
tile_of (waits h key) = Some h.tile
tile_of (lost h ask) = Some h.tile
tile_of (told h value time limit) = Some h.tile
tile_of (traps h cause) = Some h.tile
tile_of (trapping h cause) = Some h.tile
tile_of (trapped h cause) = Some h.tile
tile_of (leaving tile code time) = Some tile
tile_of (passing host code time) = None
tile_of (exiting host code time) = None
tile_of (vanished code) = None
tile_of (over code joined) = None

-- the flat thread

abbrev pub status_working : Work → FlatStatus
status_working executes = Ready
status_working (gathers write) = FlatWriting write.addr write.len write.got

abbrev pub status_going : Going → FlatStatus
status_going runs = Ready
status_going (misses access) = Ready
status_going (writes write) = status_working (gathers write)
status_going (misses_byte write) = status_working (gathers write)
status_going (stops work report) = status_working work
status_going (probes work partner replies) = status_working work

abbrev pub status_asking : Ask → FlatStatus
status_asking (plainly call) = FlatAsked call
status_asking (by_write write) = FlatWriting write.addr write.len write.got

abbrev pub call_of : Ask → CallOf
call_of (plainly call) = call
call_of (by_write write) = Write write.got
