-- What the flat machine, the control server and the lists of a host have of a thread, and what its phase says of that. This
-- simulator's own.
use Rattle.std.specs.Prelude.{ℕ, ◌+◌, List, [], ◌∷◌, ◌++◌, Option, Some, None, ◌==◌, if◌then◌else◌}
use Rattle.std.specs.Prelude.{map, filter, slice_get, option_and_then}
use Rattle.std.specs.Option.{option_map}
use Rattle.sim_base.specs.Numbering.{local_node}
use Rattle.elf_image.specs.Layout.{Setup}
use Rattle.wire_msg.specs.declared.calls.Call.TheVariants.{FutexWait}
use Rattle.wire_msg.specs.declared.messages.Msg.{Msg}
use Rattle.wire_msg.specs.declared.messages.Msg.TheVariants.{Start, Exit}
use Rattle.serving.specs.declared.control_data.Fate.{Fate}
use Rattle.serving.specs.declared.control_data.Request.TheVariants.{Call as CallRequest, Exit as ExitRequest, Trap as TrapRequest}
use Rattle.serving.specs.ControlData.{ControlData, is_joiner}
use Rattle.clock_policy.specs.declared.members.Member.{Member}
use Rattle.flat_machine.specs.declared.threads.Thread.{Thread}
use Rattle.flat_machine.specs.declared.threads.Status.{Status as FlatStatus}
use Rattle.flat_machine.specs.declared.threads.Status.TheVariants.{New, Asked as FlatAsked, Parked, Answered, Left, Trapped as FlatTrapped, Gone}
use Rattle.flat_machine.specs.State.{State as Flat}
use Rattle.control_server.specs.Control.{Control, Waiting, Check, waits as is_by}
use Rattle.event_journal.specs.State.{State}
use Rattle.node_machine.specs.declared.nodes.Node.{Node}
use Rattle.agreement_laws.specs.Seen.{starts_of, exits_of}
use Rattle.agreement_laws.specs.Phases.{Hart, Report, noted, Going, stops, Ask, Key, word, ending, Phase, unborn, sent, given, on, calling, asking, checking, waits, lost, told, traps, trapping, trapped, leaving, passing, exiting, vanished, over, status_going, status_asking, call_of}

-- SIDES: what the flat machine, the control server and the lists of a host have of a thread
pub record Side : Type 0 where
  pub status : Option FlatStatus
  pub place : Option Hart
  pub keys : List Key
  pub backlog : List Waiting
  pub checked : List Check
  pub reports : List (Option ℕ)
  pub starts : List Msg
  pub exits : List Msg

abbrev pub place_of : Thread → Option Hart
place_of t = option_map (λ tile. record { tile = tile; regs = t.regs; pc = t.pc }) t.tile

-- the threads that one is parked joining, of those from a number on
abbrev pub targets_of : ℕ → ℕ → List Fate → List Key
targets_of thread number [] = []
targets_of thread number (fate ∷ fates) = if is_joiner thread fate then ending number ∷ targets_of thread (number + 1) fates else targets_of thread (number + 1) fates

abbrev pub keys_of : ControlData → ℕ → List Key
keys_of c thread = map (λ w. word w.addr) (filter (λ w. w.thread == thread) c.waiters) ++ targets_of thread 0 c.fates

abbrev pub checked_of : ℕ → Option Check → List Check
checked_of thread None = []
checked_of thread (Some check) = if check.thread == thread then check ∷ [] else []

abbrev pub reports_of : ℕ → List Member → List (Option ℕ)
reports_of thread members = map (λ m. m.reached) (filter (λ m. m.thread == thread) members)

abbrev pub side : Setup → State Node Msg → Control → Flat → ℕ → ℕ → Side
side w s c f thread host = record {
  status = option_map (λ t. t.status) (slice_get f.threads thread);
  place = option_and_then place_of (slice_get f.threads thread);
  keys = keys_of c.control thread;
  backlog = filter (is_by thread) c.backlog;
  checked = checked_of thread c.checking;
  reports = reports_of thread c.epochs.members;
  starts = starts_of w s host thread;
  exits = exits_of w s host thread;
}

-- a live thread that isn't parked, with this status at this place, of which nothing else is there
abbrev pub plain : FlatStatus → Option Hart → Side
plain status place = record { status = Some status; place = place; keys = []; backlog = []; checked = []; reports = None ∷ []; starts = []; exits = [] }

abbrev pub there : ℕ → ℕ → Msg → List Msg
there place host msg = if place == host then msg ∷ [] else []

abbrev pub asked : ℕ → ℕ → ℕ → Ask → Waiting
asked u from time ask = record { thread = u; from = from; time = time; request = CallRequest (call_of ask) }

abbrev pub report_of : ℕ → Report → Option ℕ
report_of tile noted = Some tile
report_of tile _ = None

abbrev pub reports_going : ℕ → Going → List (Option ℕ)
reports_going tile (stops work report) = report_of tile report ∷ []
reports_going tile _ = None ∷ []

abbrev pub side_of : Setup → ℕ → ℕ → Phase → Side
side_of w u host unborn = record { status = None; place = None; keys = []; backlog = []; checked = []; reports = []; starts = []; exits = [] }
side_of w u host (sent at entry arg time limit) = record (plain (New entry arg) None) { starts = there at host (Start u entry arg time limit) }
side_of w u host (given tile entry arg time limit) = plain (New entry arg) None
side_of w u host (on h going) = record (plain (status_going going) (Some h)) { reports = reports_going h.tile going }
side_of w u host (calling h ask time) = plain (status_asking ask) (Some h)
side_of w u host (asking h ask time) = record (plain (status_asking ask) (Some h)) { backlog = asked u h.tile time ask ∷ [] }
side_of w u host (checking h addr value) = record (plain (FlatAsked (FutexWait addr value)) (Some h)) { checked = (record { thread = u; from = h.tile; addr = addr; value = value }) ∷ [] }
side_of w u host (waits h key) = record (plain Parked (Some h)) { keys = key ∷ []; reports = [] }
side_of w u host (lost h ask) = plain (status_asking ask) (Some h)
side_of w u host (told h value time limit) = plain (Answered value) (Some h)
side_of w u host (traps h cause) = plain (FlatTrapped cause h.pc) (Some h)
side_of w u host (trapping h cause) = record (plain (FlatTrapped cause h.pc) (Some h)) { backlog = (record { thread = u; from = h.tile; time = 0; request = TrapRequest cause h.pc }) ∷ [] }
side_of w u host (trapped h cause) = plain (FlatTrapped cause h.pc) (Some h)
side_of w u host (leaving tile code time) = plain (Left code) None
side_of w u host (passing at code time) = record (plain (Left code) None) { exits = there at host (Exit u code time) }
side_of w u host (exiting at code time) = record (plain (Left code) None) { backlog = (record { thread = u; from = local_node w.config at; time = time; request = ExitRequest code }) ∷ [] }
side_of w u host (vanished code) = plain (Left code) None
side_of w u host (over code joined) = record { status = Some (Gone code joined); place = None; keys = []; backlog = []; checked = []; reports = []; starts = []; exits = [] }
