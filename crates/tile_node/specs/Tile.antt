-- A tile: a core, a private cache, a slice of the directory, and counts; and what it does in one event. After Graphite
-- (HPCA 2010).
use Rattle.std.specs.Prelude.{ℕ, ◌+◌, ◌%◌, ◌==◌, Bool, true, false, List, [], slice_index, if◌then◌else◌, Option, Some, None}
use Rattle.sim_base.specs.declared.actions.Action.{Action}
use Rattle.sim_base.specs.declared.lines.LineData.{LineData}
use Rattle.sim_base.specs.LittleEndian.{loaded}
use Rattle.sim_base.specs.Numbering.{home_of}
use Rattle.sim_base.specs.Saturated.{saturated}
use Rattle.rv_exec.specs.declared.access.AccessOp.{AccessOp}
use Rattle.rv_exec.specs.declared.access.AccessOp.TheVariants.{Load, Store}
use Rattle.rv_exec.specs.declared.access.Done.{Done}
use Rattle.rv_exec.specs.Access.{Asked, finish_of}
use Rattle.rv_exec.specs.Registers.{with_register}
use Rattle.rv_hart.specs.declared.reservations.Span.{Span}
use Rattle.rv_hart.specs.Reservation.{reserved}
use Rattle.rv_hart.specs.Start.{next_pc}
use Rattle.elf_image.specs.Layout.{Setup}
use Rattle.mesh_model.specs.Cost.{cost_of}
use Rattle.sim_base.specs.declared.kinds.CostClass.{CostClass}
use Rattle.sim_base.specs.declared.kinds.CostClass.TheVariants.{Mem, Amo}
use Rattle.wire_msg.specs.declared.messages.Msg.{Msg}
use Rattle.wire_msg.specs.declared.messages.Msg.TheVariants.{GetS, GetM, PutM, InvAck, FetchAck}
use Rattle.wire_msg.specs.declared.lines.Want.{Want}
use Rattle.wire_msg.specs.declared.lines.Want.TheVariants.{Read, Write}
use Rattle.wire_msg.specs.declared.lines.Up.{Up}
use Rattle.wire_msg.specs.declared.lines.Up.TheVariants.{Asks, GivesUp, Acknowledges, HandsOver}
use Rattle.tile_core.specs.declared.cores.TileCore.{TileCore}
use Rattle.tile_core.specs.declared.cores.Status.{Status}
use Rattle.tile_core.specs.Core.{idle_core, begun, line_at}
use Rattle.tile_core.specs.Gathering.{with_byte}
use Rattle.tile_cache.specs.declared.ways.Hold.{Hold}
use Rattle.tile_cache.specs.declared.ways.Hold.TheVariants.{S, M}
use Rattle.tile_cache.specs.Cache.{Sets, empty_cache, written}
use Rattle.dir_slice.specs.Directory.{Slice, start_slice}
use Rattle.tile_node.specs.declared.tile.TileCounts.{TileCounts}
use Rattle.clock_policy.specs.Probe.{ProbeStream, start_stream}

-- a tile: its number; its core; its cache; the lines whose home it is; the stream that its probes are drawn from; how
-- many instructions committed, and how many accesses hit and missed; and whether it is spent, as it is once memory ran
-- out in a call
pub record Tile : Type 0 where
  pub number : ℕ
  pub core : TileCore
  pub cache : Sets
  pub slice : Slice
  pub probes : ProbeStream
  pub instr : ℕ
  pub hits : ℕ
  pub misses : ℕ
  pub spent : Bool

-- a tile before the program runs: thread 0 begins on tile 0 at the image's entry with argument 0 and clock 0, and the
-- first limit is one quantum
abbrev pub first_core : Setup → ℕ → TileCore
first_core w tile = if tile == 0 then begun w 0 0 w.image.entry 0 0 w.config.quantum else idle_core

abbrev pub start_tile : Setup → ℕ → Tile
start_tile w tile = record {
  number = tile;
  core = first_core w tile;
  cache = empty_cache w.config.sets w.config.ways;
  slice = start_slice w tile;
  probes = start_stream w.config tile;
  instr = 0;
  hits = 0;
  misses = 0;
  spent = false;
}

-- what it has counted, and its clock
abbrev pub counts_of : Tile → TileCounts
counts_of t = record { clock = t.core.clock; instr = t.instr; hits = t.hits; misses = t.misses }

-- what a tile does in an event: the tile afterwards; what it sends, in order, with the receivers; and the action of the flat
-- machine that it commits, if it does
pub record Act : Type 0 where
  pub tile : Tile
  pub mail : List (ℕ × Msg)
  pub action : Option Action

-- nothing but a change of the tile
abbrev pub quiet : Tile → Act
quiet t = record { tile = t; mail = []; action = None }

-- the message that says something about a line
abbrev pub up_message : ℕ → Up → Msg
up_message line (Asks Read) = GetS line
up_message line (Asks Write) = GetM line
up_message line (GivesUp content) = PutM line content
up_message line Acknowledges = InvAck line
up_message line (HandsOver content) = FetchAck line content

-- what goes to a line's home
abbrev pub to_home : Setup → ℕ → Up → ℕ × Msg
to_home w line says = (home_of w.config line, up_message line says)

-- parts of tiles

abbrev pub with_status : Tile → Status → Tile
with_status t status = record t { core = record t.core { status = status } }

-- the clock so many cycles later; it stops at 2 ^ 64 - 1
abbrev pub later : TileCore → ℕ → TileCore
later core cycles = record core { clock = saturated (core.clock + cycles) }

-- one more
abbrev pub one_more : ℕ → ℕ
one_more n = saturated (n + 1)

-- a reservation ends when its line leaves M
abbrev pub unless_on : ℕ → Option Span → Option Span
unless_on line None = None
unless_on line (Some span) = if line_at span.addr == line then None else Some span

abbrev pub without_reservation_on : ℕ → TileCore → TileCore
without_reservation_on line core = record core { reservation = unless_on line core.reservation }

-- an access to a line

-- whether a hold is enough for an access: any for a load, M for all others
abbrev pub suits : AccessOp → Hold → Bool
suits Load hold = true
suits _ M = true
suits _ S = false

-- whether a line is held to read alone
abbrev pub is_only_read : Hold → Bool
is_only_read S = true
is_only_read M = false

-- what an access wants its line for: a load to read it, all others to write it
abbrev pub access_want : AccessOp → Want
access_want Load = Read
access_want _ = Write

-- what an access costs where its line is there
abbrev pub access_class : AccessOp → CostClass
access_class Load = Mem
access_class Store = Mem
access_class _ = Amo

abbrev pub access_cost : Setup → Asked → ℕ
access_cost w access = cost_of w.config (access_class access.op)

-- where a byte stands in its line
abbrev pub place_in_line : ℕ → ℕ
place_in_line addr = addr % 64

-- what an access gives on what a line holds
abbrev pub done_on : Asked → LineData → Done
done_on access content = finish_of access (loaded (slice_index content.bytes) (place_in_line access.addr) access.size)

-- the core after an access: rd gets its value, the thread goes on behind the instruction
abbrev pub accessed : TileCore → Asked → Done → TileCore
accessed core access done = record core {
  regs = with_register core.regs access.rd done.value;
  pc = next_pc core.pc;
  reservation = reserved access core.reservation;
}

-- the cache after an access that writes a number, or nothing
abbrev pub with_written : Sets → Asked → Option ℕ → Sets
with_written cache access None = cache
with_written cache access (Some value) = written cache (line_at access.addr) (place_in_line access.addr) access.size value

-- a tile whose thread does an access on what a line of this cache holds, so many cycles later
abbrev pub with_access : Tile → Sets → Asked → LineData → ℕ → Tile
with_access t cache access content cycles = record t {
  core = later (accessed t.core access (done_on access content)) cycles;
  cache = with_written cache access (done_on access content).write;
  instr = one_more t.instr;
}

-- a tile whose write has the next byte from what a line of this cache holds, so many cycles later
abbrev pub with_byte_got : Tile → Sets → ℕ → LineData → ℕ → Tile
with_byte_got t cache addr content cycles = record t {
  core = later (record t.core { write = with_byte t.core.write (slice_index content.bytes (place_in_line addr)) }) cycles;
  cache = cache;
}
