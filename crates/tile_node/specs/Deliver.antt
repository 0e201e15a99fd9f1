-- What a tile makes of each message. Where no case speaks, nothing changes. This simulator's own, after Graphite (HPCA
-- 2010).
use Rattle.std.specs.Prelude.{ℕ, ◌+◌, ◌==◌, ◌&&◌, Bool, true, false, List, [], ◌∷◌, max, if◌then◌else◌, Option, Some, None}
use Rattle.sim_base.specs.declared.actions.Action.{Action}
use Rattle.sim_base.specs.declared.actions.Action.TheVariants.{Exec, Load as LoadByte, Return as ReturnAction, Begin}
use Rattle.sim_base.specs.declared.lines.LineData.{LineData}
use Rattle.sim_base.specs.Saturated.{saturated}
use Rattle.rv_exec.specs.Access.{Asked}
use Rattle.rv_hart.specs.Start.{next_pc, with_answer}
use Rattle.elf_image.specs.Layout.{Setup}
use Rattle.wire_msg.specs.declared.messages.Msg.{Msg}
use Rattle.wire_msg.specs.declared.messages.Msg.TheVariants.{GetS, GetM, PutM, InvAck, FetchAck, DataS, DataM, Inv, Fetch, FetchInv, Return, Start, Limit, Probe, ProbeReply}
use Rattle.wire_msg.specs.declared.lines.Want.{Want}
use Rattle.wire_msg.specs.declared.lines.Want.TheVariants.{Read, Write}
use Rattle.wire_msg.specs.declared.lines.Up.{Up}
use Rattle.wire_msg.specs.declared.lines.Up.TheVariants.{Asks, GivesUp, Acknowledges, HandsOver}
use Rattle.wire_msg.specs.Message.{may_send}
use Rattle.tile_core.specs.declared.cores.Status.{Status}
use Rattle.tile_core.specs.declared.cores.Status.TheVariants.{Idle, Run, Miss, Called, Writing, AtBarrier, Probing}
use Rattle.tile_core.specs.Core.{begun, next_byte, line_missed}
use Rattle.tile_cache.specs.declared.ways.Hold.{Hold}
use Rattle.tile_cache.specs.declared.ways.Hold.TheVariants.{S, M}
use Rattle.tile_cache.specs.declared.ways.Way.{Way}
use Rattle.tile_cache.specs.Cache.{Sets, way_of, content_of, victim_of, without_line, placed, downgraded}
use Rattle.dir_slice.specs.Directory.{reaction, home_at, after_step, mail_of}
use Rattle.clock_policy.specs.Probe.{may_go_on}
use Rattle.tile_node.specs.Tile.{Tile, Act, quiet, up_message, to_home, with_status, without_reservation_on, suits, is_only_read, access_cost, with_access, with_byte_got}

-- the home's role: what the line's home makes of what a node tells it
abbrev pub home_does : Setup → Tile → ℕ → ℕ → Up → Act
home_does w t from line says =
    let step = reaction w.config t.number line (home_at t.slice.homes line) from says in
    record (quiet (record t { slice = record t.slice { homes = after_step t.slice.homes line step } })) { mail = mail_of step }

-- room for a line: the victim leaves, and goes home where it was in M, which ends a reservation on it
abbrev pub put_home : Setup → ℕ → Option LineData → List (ℕ × Msg)
put_home w line None = []
put_home w line (Some content) = to_home w line (GivesUp content) ∷ []

abbrev pub given_up_tile : Tile → ℕ → Tile
given_up_tile t line = record t { cache = without_line t.cache line; core = without_reservation_on line t.core }

abbrev pub victim_tile : Tile → Option (ℕ × Hold) → Tile
victim_tile t None = t
victim_tile t (Some (line, M)) = given_up_tile t line
victim_tile t (Some (line, S)) = record t { cache = without_line t.cache line }

abbrev pub victim_mail : Setup → Tile → Option (ℕ × Hold) → List (ℕ × Msg)
victim_mail w t None = []
victim_mail w t (Some (line, M)) = put_home w line (content_of t.cache line)
victim_mail w t (Some (line, S)) = []

-- a miss ends: the line is placed, and what waited for it is done on it in the same event
abbrev pub waiting_done : Setup → Tile → Sets → Option Asked → LineData → ℕ → Tile
waiting_done w t cache (Some access) content delay = with_status (with_access t cache access content (access_cost w access + delay)) Run
waiting_done w t cache None content delay = with_status (with_byte_got t cache (next_byte t.core.write) content (w.config.mem_cost + delay)) Writing

abbrev pub waiting_action : ℕ → Option Asked → Action
waiting_action thread (Some access) = Exec thread
waiting_action thread None = LoadByte thread

abbrev pub miss_ends_for : Setup → Tile → Option (ℕ × Hold) → Option Asked → ℕ → Hold → LineData → ℕ → Act
miss_ends_for w t victim access line hold content delay =
    let room : Tile = victim_tile t victim in
    record {
      tile = waiting_done w room (placed room.cache line hold content) access content delay;
      mail = victim_mail w t victim;
      action = Some (waiting_action t.core.thread access);
    }

abbrev pub miss_ends : Setup → Tile → Option Asked → ℕ → Hold → LineData → ℕ → Act
miss_ends w t access line hold content delay = miss_ends_for w t (victim_of t.cache line) access line hold content delay

-- a line that comes is taken where the tile misses it, and its hold is enough for what waits
abbrev pub hold_suits : Option Asked → Hold → Bool
hold_suits (Some access) hold = suits access.op hold
hold_suits None hold = true

abbrev pub data_taken : Setup → Tile → ℕ → Hold → LineData → ℕ → Status → Act
data_taken w t line hold content delay (Miss access) =
    if line_missed t.core.write access == line && hold_suits access hold then miss_ends w t access line hold content delay else quiet t
data_taken w t line hold content delay _ = quiet t

-- a copy in S is dropped, and whether there was one or not, that is acknowledged
abbrev pub told_to : ℕ → ℕ → Up → List (ℕ × Msg)
told_to node line says = (node, up_message line says) ∷ []

abbrev pub inv_tile : Tile → ℕ → Option Way → Tile
inv_tile t line None = t
inv_tile t line (Some way) = if is_only_read way.hold then record t { cache = without_line t.cache line } else t

abbrev pub inv_taken : Tile → ℕ → ℕ → Act
inv_taken t from line = record (quiet (inv_tile t line (way_of t.cache line))) { mail = told_to from line Acknowledges }

-- a line in M is handed over: for a reader it stays in S, for a writer it goes. A line that isn't there in M was given
-- up already, which its home hears of
abbrev pub fetched_tile : Tile → ℕ → Want → Tile
fetched_tile t line Read = record t { cache = downgraded t.cache line; core = without_reservation_on line t.core }
fetched_tile t line Write = given_up_tile t line

abbrev pub fetch_by : Tile → ℕ → ℕ → Want → Option Way → Act
fetch_by t from line want None = quiet t
fetch_by t from line want (Some way) =
    if is_only_read way.hold then quiet t
    else record (quiet (fetched_tile t line want)) { mail = told_to from line (HandsOver way.content) }

abbrev pub fetch_taken : Tile → ℕ → ℕ → Want → Act
fetch_taken t from line want = fetch_by t from line want (way_of t.cache line)

-- an answer comes to a call
abbrev pub return_taken : Setup → Tile → ℕ → ℕ → ℕ → Status → Act
return_taken w t value time limit Called =
    record (quiet (record t {
      core = record t.core {
        regs = with_answer t.core.regs value;
        pc = next_pc t.core.pc;
        clock = saturated (max t.core.clock time + w.config.call_cost);
        limit = limit;
        status = Run;
      };
    })) { action = Some (ReturnAction t.core.thread) }
return_taken w t value time limit _ = quiet t

-- a thread begins on an idle tile
abbrev pub start_taken : Setup → Tile → ℕ → ℕ → ℕ → ℕ → ℕ → Status → Act
start_taken w t thread entry arg time limit Idle =
    record (quiet (record t { core = begun w t.number thread entry arg (saturated (max t.core.clock time + w.config.spawn_cost)) limit })) {
      action = Some (Begin thread t.number);
    }
start_taken w t thread entry arg time limit _ = quiet t

-- what goes on after a wait: a write, or instructions
abbrev pub onward : Bool → Status
onward true = Writing
onward false = Run

-- the next limit ends a wait at the barrier
abbrev pub limit_taken : Tile → ℕ → Status → Act
limit_taken t limit (AtBarrier writing) = quiet (record t { core = record t.core { limit = limit; status = onward writing } })
limit_taken t limit _ = quiet t

-- whether a tile's thread runs, for another tile that asks
abbrev pub is_running : Status → Bool
is_running Run = true
is_running Writing = true
is_running (Miss access) = true
is_running (Probing writing partner replies) = true
is_running _ = false

abbrev pub probe_taken : Tile → ℕ → Act
probe_taken t from = record (quiet t) { mail = (from, ProbeReply (is_running t.core.status) t.core.clock) ∷ [] }

-- a reply to a probe: the thread goes on, or the partner is asked again
abbrev pub goes_on : Setup → Tile → Bool → Tile
goes_on w t writing = record t { core = record t.core { status = onward writing; next_check = saturated (t.core.clock + w.config.interval) } }

abbrev pub asks_again : Tile → Bool → ℕ → ℕ → Act
asks_again t writing partner replies = record (quiet (with_status t (Probing writing partner replies))) { mail = (partner, Probe) ∷ [] }

abbrev pub reply_taken : Setup → Tile → Bool → ℕ → Status → Act
reply_taken w t running clock (Probing writing partner replies) =
    if may_go_on t.core.clock clock running w.config.slack (replies + 1) then quiet (goes_on w t writing)
    else asks_again t writing partner (replies + 1)
reply_taken w t running clock _ = quiet t

-- each message from a node that may send it
abbrev pub taken : Setup → Tile → ℕ → Msg → Act
taken w t from (GetS line) = home_does w t from line (Asks Read)
taken w t from (GetM line) = home_does w t from line (Asks Write)
taken w t from (PutM line content) = home_does w t from line (GivesUp content)
taken w t from (InvAck line) = home_does w t from line Acknowledges
taken w t from (FetchAck line content) = home_does w t from line (HandsOver content)
taken w t from (DataS line content delay) = data_taken w t line S content delay t.core.status
taken w t from (DataM line content delay) = data_taken w t line M content delay t.core.status
taken w t from (Inv line) = inv_taken t from line
taken w t from (Fetch line) = fetch_taken t from line Read
taken w t from (FetchInv line) = fetch_taken t from line Write
taken w t from (Return value time limit) = return_taken w t value time limit t.core.status
taken w t from (Start thread entry arg time limit) = start_taken w t thread entry arg time limit t.core.status
taken w t from (Limit limit) = limit_taken t limit t.core.status
taken w t from Probe = probe_taken t from
taken w t from (ProbeReply running clock) = reply_taken w t running clock t.core.status
taken w t from _ = quiet t

-- a message from any other node changes nothing
abbrev pub tile_delivered : Setup → Tile → ℕ → Msg → Act
tile_delivered w t from msg = if may_send w.config from t.number msg then taken w t from msg else quiet t
