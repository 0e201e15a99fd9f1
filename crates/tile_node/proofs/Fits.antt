-- Each act of a tile that fits a machine leaves one that does.
use Rattle.std.proofs.Common.{◌≡◌, ℕ, ◌+◌, ◌<◌, true, false, Bool, None, Some, refl, sym, ◌∙◌, inl, inr, arith}
use Rattle.std.specs.Prelude.{Option, ◌==◌, ◌&&◌}
use Rattle.std.proofs.lemmas.Bool.{cases_Bool}
use Rattle.std.proofs.lemmas.Bool.Decides.{nat_tests}
use Rattle.sim_base.specs.declared.lines.LineData.{LineData}
use Rattle.elf_image.specs.Layout.{Setup}
use Rattle.rv_exec.specs.Access.{Asked}
use Rattle.wire_msg.specs.declared.messages.Msg.{Msg}
use Rattle.wire_msg.specs.declared.lines.Want.{Want}
use Rattle.wire_msg.specs.declared.lines.Want.TheVariants.{Read, Write}
use Rattle.wire_msg.specs.declared.messages.Msg.TheVariants.{GetS, GetM, PutM, InvAck, FetchAck, DataS, DataM, Inv, Fetch, FetchInv, Return, Start, Limit, Probe, ProbeReply}
use Rattle.tile_core.specs.declared.cores.Status.{Status}
use Rattle.tile_core.specs.declared.cores.Status.TheVariants.{Idle, Run, Miss, Called, Writing, AtBarrier, Probing, Trapped}
use Rattle.tile_core.specs.declared.plans.Plan.{Plan}
use Rattle.tile_core.specs.declared.plans.Plan.TheVariants.{Local, Access, ScFails, Send, Exit, Write, Trap}
use Rattle.tile_core.specs.Gathering.{Gathering, is_gathered}
use Rattle.tile_core.specs.Core.{line_at, line_missed, next_byte}
use Rattle.tile_core.specs.Plan.{plan_of}
use Rattle.tile_cache.specs.declared.ways.Hold.{Hold}
use Rattle.tile_cache.specs.declared.ways.Hold.TheVariants.{S, M}
use Rattle.tile_cache.specs.declared.ways.Way.{Way}
use Rattle.tile_cache.specs.Cache.{way_of, victim_of}
use Rattle.clock_policy.specs.Probe.{may_go_on}
use Rattle.tile_node.specs.Tile.{Tile, first_core, start_tile, suits, is_only_read}
use Rattle.tile_node.specs.Step.{is_writing, waits_for_limit, looks_around, probes, reads_byte_by, writes, accesses_by, follows, works, tile_step}
use Rattle.tile_node.specs.Deliver.{hold_suits, miss_ends_for, data_taken, fetched_tile, inv_tile, fetch_by, return_taken, start_taken, onward, limit_taken, reply_taken, taken}
use Rattle.tile_node.specs.Answers.{IsOf, WaitsRightly}
use Rattle.tile_node.specs.Inner.{IsKept}

-- before the program runs

first_waits : (w : Setup) (tile : ℕ) → WaitsRightly (first_core w tile).status (first_core w tile).write
first_waits w tile = elim (cases_Bool (tile == 0)) [ inl first ↦ rw first tt | inr other ↦ rw other tt ]

pub start_fits : (w : Setup) (tile : ℕ) → tile < w.config.tiles → IsOf w (start_tile w tile)
start_fits w tile h = record { number = h; home = refl; tiles = refl; stream = record { tiles = refl; tile = refl }; waits = first_waits w tile }

-- the step

writing_waits : (s : Status) (write : Gathering) → is_writing s ≡ true → WaitsRightly s write
writing_waits Writing write e = tt
writing_waits Idle write e = tt
writing_waits Run write e = tt
writing_waits Called write e = tt
writing_waits Trapped write e = tt
writing_waits (AtBarrier writing) write e = tt
writing_waits (Miss access) write e = cc
writing_waits (Probing writing partner replies) write e = cc

probes_fits : (w : Setup) (t : Tile) → IsOf w t → IsOf w (probes t).tile
probes_fits w t h = record { number = h.number; home = h.home; tiles = h.tiles; stream = record { tiles = h.stream.tiles; tile = h.stream.tile }; waits = omega arith }

byte_fits : (w : Setup) (t : Tile) (addr : ℕ) (found : Option Way) → IsOf w t → is_writing t.core.status ≡ true → is_gathered t.core.write ≡ false
    → IsOf w (reads_byte_by w t addr found).tile
byte_fits w t addr None h writing left =
    record { number = h.number; home = h.home; tiles = h.tiles; stream = h.stream; waits = grind (arith, nat_tests) }
byte_fits w t addr (Some way) h writing left =
    record { number = h.number; home = h.home; tiles = h.tiles; stream = h.stream; waits = writing_waits t.core.status _ writing }

writes_fits : (w : Setup) (t : Tile) → IsOf w t → is_writing t.core.status ≡ true → IsOf w (writes w t).tile
writes_fits w t h writing = elim (cases_Bool (is_gathered t.core.write)) [
  | inl all ↦ rw all (record { number = h.number; home = h.home; tiles = h.tiles; stream = h.stream; waits = tt })
  | inr left ↦ rw left (byte_fits w t (next_byte t.core.write) (way_of t.cache (line_at (next_byte t.core.write))) h writing left)
]

access_fits : (w : Setup) (t : Tile) (access : Asked) (found : Option Way) → IsOf w t → IsOf w (accesses_by w t access found).tile
access_fits w t access None h = record { number = h.number; home = h.home; tiles = h.tiles; stream = h.stream; waits = tt }
access_fits w t access (Some way) h = elim (cases_Bool (suits access.op way.hold)) [
  | inl enough ↦ rw enough (record { number = h.number; home = h.home; tiles = h.tiles; stream = h.stream; waits = h.waits })
  | inr short ↦ rw short (record { number = h.number; home = h.home; tiles = h.tiles; stream = h.stream; waits = tt })
]

plan_fits : (w : Setup) (t : Tile) (plan : Plan) → IsOf w t → IsOf w (follows w t plan).tile
plan_fits w t (Local rd value pc cost answered) h = record { number = h.number; home = h.home; tiles = h.tiles; stream = h.stream; waits = h.waits }
plan_fits w t (Access access) h = access_fits w t access (way_of t.cache (line_at access.addr)) h
plan_fits w t (ScFails rd) h = record { number = h.number; home = h.home; tiles = h.tiles; stream = h.stream; waits = h.waits }
plan_fits w t (Send call) h = record { number = h.number; home = h.home; tiles = h.tiles; stream = h.stream; waits = tt }
plan_fits w t (Exit code) h = record { number = h.number; home = h.home; tiles = h.tiles; stream = h.stream; waits = tt }
plan_fits w t (Write addr len) h = record { number = h.number; home = h.home; tiles = h.tiles; stream = h.stream; waits = tt }
plan_fits w t (Trap cause) h = record { number = h.number; home = h.home; tiles = h.tiles; stream = h.stream; waits = tt }

works_fits : (w : Setup) (t : Tile) → IsOf w t → IsOf w (works w t).tile
works_fits w t h = elim (cases_Bool (is_writing t.core.status)) [
  | inl writing ↦ rw writing (writes_fits w t h writing)
  | inr runs ↦ rw runs (plan_fits w t (plan_of w t.core) h)
]

pub step_fits : (w : Setup) (t : Tile) → IsOf w t → IsOf w (tile_step w t).tile
step_fits w t h = elim (cases_Bool (waits_for_limit w.config.policy t.core.clock t.core.limit)) [
  | inl waits ↦ rw waits (record { number = h.number; home = h.home; tiles = h.tiles; stream = h.stream; waits = tt })
  | inr below ↦ elim (cases_Bool (looks_around w.config.policy w.config.tiles t.core.clock t.core.next_check)) [
    | inl looks ↦ rw (below, looks) (probes_fits w t h)
    | inr works ↦ rw (below, works) (works_fits w t h)
  ]
]

-- the deliveries

ends_fits : (w : Setup) (t : Tile) (victim : Option (ℕ × Hold)) (access : Option Asked) (line : ℕ) (hold : Hold) (content : LineData) (delay : ℕ)
    → IsOf w t → IsOf w (miss_ends_for w t victim access line hold content delay).tile
ends_fits w t None None line hold content delay h = record { number = h.number; home = h.home; tiles = h.tiles; stream = h.stream; waits = tt }
ends_fits w t None (Some access) line hold content delay h = record { number = h.number; home = h.home; tiles = h.tiles; stream = h.stream; waits = tt }
ends_fits w t (Some (victim, S)) None line hold content delay h = record { number = h.number; home = h.home; tiles = h.tiles; stream = h.stream; waits = tt }
ends_fits w t (Some (victim, S)) (Some access) line hold content delay h = record { number = h.number; home = h.home; tiles = h.tiles; stream = h.stream; waits = tt }
ends_fits w t (Some (victim, M)) None line hold content delay h = record { number = h.number; home = h.home; tiles = h.tiles; stream = h.stream; waits = tt }
ends_fits w t (Some (victim, M)) (Some access) line hold content delay h = record { number = h.number; home = h.home; tiles = h.tiles; stream = h.stream; waits = tt }

data_fits : (w : Setup) (t : Tile) (line : ℕ) (hold : Hold) (content : LineData) (delay : ℕ) (s : Status) → IsOf w t → IsOf w (data_taken w t line hold content delay s).tile
data_fits w t line hold content delay (Miss access) h = elim (cases_Bool (line_missed t.core.write access == line && hold_suits access hold)) [
  | inl here ↦ rw here (ends_fits w t (victim_of t.cache line) access line hold content delay h)
  | inr other ↦ rw other h
]
data_fits w t line hold content delay _ h = h

inv_fits : (w : Setup) (t : Tile) (line : ℕ) (found : Option Way) → IsOf w t → IsOf w (inv_tile t line found)
inv_fits w t line None h = h
inv_fits w t line (Some way) h = elim (cases_Bool (is_only_read way.hold)) [
  | inl shared ↦ rw shared (record { number = h.number; home = h.home; tiles = h.tiles; stream = h.stream; waits = h.waits })
  | inr own ↦ rw own h
]

fetched_fits : (w : Setup) (t : Tile) (line : ℕ) (want : Want) → IsOf w t → IsOf w (fetched_tile t line want)
fetched_fits w t line Read h = record { number = h.number; home = h.home; tiles = h.tiles; stream = h.stream; waits = h.waits }
fetched_fits w t line Write h = record { number = h.number; home = h.home; tiles = h.tiles; stream = h.stream; waits = h.waits }

fetch_fits : (w : Setup) (t : Tile) (from line : ℕ) (want : Want) (found : Option Way) → IsOf w t → IsOf w (fetch_by t from line want found).tile
fetch_fits w t from line want None h = h
fetch_fits w t from line want (Some way) h = elim (cases_Bool (is_only_read way.hold)) [
  | inl shared ↦ rw shared h
  | inr own ↦ rw own (fetched_fits w t line want h)
]

return_fits : (w : Setup) (t : Tile) (value time limit : ℕ) (s : Status) → IsOf w t → IsOf w (return_taken w t value time limit s).tile
return_fits w t value time limit Called h = record { number = h.number; home = h.home; tiles = h.tiles; stream = h.stream; waits = tt }
return_fits w t value time limit _ h = h

begin_fits : (w : Setup) (t : Tile) (thread entry arg time limit : ℕ) (s : Status) → IsOf w t → IsOf w (start_taken w t thread entry arg time limit s).tile
begin_fits w t thread entry arg time limit Idle h = record { number = h.number; home = h.home; tiles = h.tiles; stream = h.stream; waits = tt }
begin_fits w t thread entry arg time limit _ h = h

onward_waits : (writing : Bool) (write : Gathering) → WaitsRightly (onward writing) write
onward_waits true write = tt
onward_waits false write = tt

limit_fits : (w : Setup) (t : Tile) (limit : ℕ) (s : Status) → IsOf w t → IsOf w (limit_taken t limit s).tile
limit_fits w t limit (AtBarrier writing) h = record { number = h.number; home = h.home; tiles = h.tiles; stream = h.stream; waits = onward_waits writing t.core.write }
limit_fits w t limit _ h = h

fewer_replies : (own partner slack replies : ℕ) (running : Bool) → may_go_on own partner running slack (replies + 1) ≡ false → replies + 1 < 8
fewer_replies own partner slack replies running e = grind (arith, nat_tests)

reply_fits : (w : Setup) (t : Tile) (running : Bool) (clock : ℕ) (s : Status) → IsOf w t → IsOf w (reply_taken w t running clock s).tile
reply_fits w t running clock (Probing writing partner replies) h = elim (cases_Bool (may_go_on t.core.clock clock running w.config.slack (replies + 1))) [
  | inl goes ↦ rw goes (record { number = h.number; home = h.home; tiles = h.tiles; stream = h.stream; waits = onward_waits writing t.core.write })
  | inr stays ↦ rw stays (record {
    number = h.number;
    home = h.home;
    tiles = h.tiles;
    stream = h.stream;
    waits = fewer_replies t.core.clock clock w.config.slack replies running stays;
  })
]
reply_fits w t running clock _ h = h

pub taken_fits : (w : Setup) (t : Tile) (from : ℕ) (msg : Msg) → IsOf w t → IsOf w (taken w t from msg).tile
taken_fits w t from (GetS line) h = record { number = h.number; home = h.home; tiles = h.tiles; stream = h.stream; waits = h.waits }
taken_fits w t from (GetM line) h = record { number = h.number; home = h.home; tiles = h.tiles; stream = h.stream; waits = h.waits }
taken_fits w t from (PutM line content) h = record { number = h.number; home = h.home; tiles = h.tiles; stream = h.stream; waits = h.waits }
taken_fits w t from (InvAck line) h = record { number = h.number; home = h.home; tiles = h.tiles; stream = h.stream; waits = h.waits }
taken_fits w t from (FetchAck line content) h = record { number = h.number; home = h.home; tiles = h.tiles; stream = h.stream; waits = h.waits }
taken_fits w t from (DataS line content delay) h = data_fits w t line S content delay t.core.status h
taken_fits w t from (DataM line content delay) h = data_fits w t line M content delay t.core.status h
taken_fits w t from (Inv line) h = inv_fits w t line (way_of t.cache line) h
taken_fits w t from (Fetch line) h = fetch_fits w t from line Read (way_of t.cache line) h
taken_fits w t from (FetchInv line) h = fetch_fits w t from line Write (way_of t.cache line) h
taken_fits w t from (Return value time limit) h = return_fits w t value time limit t.core.status h
taken_fits w t from (Start thread entry arg time limit) h = begin_fits w t thread entry arg time limit t.core.status h
taken_fits w t from (Limit limit) h = limit_fits w t limit t.core.status h
taken_fits w t from Probe h = h
taken_fits w t from (ProbeReply running clock) h = reply_fits w t running clock t.core.status h
taken_fits w t from _ h = h

-- want of memory leaves one, too
pub kept_fits : (w : Setup) (old new : Tile) → IsKept old new → IsOf w old → IsOf w new
kept_fits w old new k h = record {
  number = rw k.number h.number;
  home = rw (k.home, k.number) h.home;
  tiles = rw k.tiles h.tiles;
  stream = record { tiles = k.stream ∙ h.stream.tiles; tile = k.asker ∙ h.stream.tile ∙ sym k.number };
  waits = rw k.core h.waits;
}
