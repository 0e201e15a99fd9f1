-- A tile's step: the first of five rules that applies. The policies are after Graphite's LaxBarrier and LaxP2P (HPCA
-- 2010); the rest is this simulator's own.
use Rattle.std.specs.Prelude.{ℕ, ◌&&◌, Bool, true, false, [], ◌∷◌, nat_lt, nat_le, if◌then◌else◌, Option, Some, None}
use Rattle.sim_base.specs.declared.actions.Action.TheVariants.{Exec, FailSc, Load as LoadByte}
use Rattle.sim_base.specs.declared.ends.Cause.{Cause}
use Rattle.sim_base.specs.declared.kinds.Policy.{Policy}
use Rattle.sim_base.specs.declared.kinds.Policy.TheVariants.{LaxBarrier, LaxP2p}
use Rattle.sim_base.specs.declared.settings.Config.{Config}
use Rattle.sim_base.specs.Numbering.{control_node, local_node, host_of}
use Rattle.rv_exec.specs.Access.{Asked}
use Rattle.rv_exec.specs.Registers.{with_register}
use Rattle.rv_hart.specs.Start.{next_pc}
use Rattle.elf_image.specs.Layout.{Setup}
use Rattle.wire_msg.specs.declared.calls.Call.{Call as CallOf}
use Rattle.wire_msg.specs.declared.calls.Call.TheVariants.{Write as WriteCall}
use Rattle.wire_msg.specs.declared.messages.Msg.TheVariants.{Call, Exit as ExitMsg, Trapped as TrappedMsg, Reached, Probe}
use Rattle.wire_msg.specs.declared.lines.Want.{Want}
use Rattle.wire_msg.specs.declared.lines.Want.TheVariants.{Read}
use Rattle.wire_msg.specs.declared.lines.Up.TheVariants.{Asks}
use Rattle.tile_core.specs.declared.cores.Status.{Status}
use Rattle.tile_core.specs.declared.cores.Status.TheVariants.{Idle, Run, Miss, Called, Writing, AtBarrier, Probing, Trapped}
use Rattle.tile_core.specs.declared.plans.Plan.{Plan}
use Rattle.tile_core.specs.declared.plans.Plan.TheVariants.{Local, Access, ScFails, Send, Exit, Write, Trap}
use Rattle.tile_core.specs.Gathering.{write_of, is_gathered}
use Rattle.tile_core.specs.Core.{line_at, next_byte}
use Rattle.tile_core.specs.Plan.{plan_of}
use Rattle.tile_cache.specs.declared.ways.Way.{Way}
use Rattle.tile_cache.specs.Cache.{way_of, touched}
use Rattle.clock_policy.specs.Probe.{partner_of, after_draw}
use Rattle.tile_node.specs.Tile.{Tile, Act, quiet, to_home, with_status, later, one_more, suits, access_want, access_cost, with_access, with_byte_got}

-- a tile can step while its thread runs or reads the bytes of a write
abbrev pub steps_in : Status → Bool
steps_in Run = true
steps_in Writing = true
steps_in _ = false

abbrev pub can_step : Tile → Bool
can_step t = steps_in t.core.status

-- whether a step is one of a write
abbrev pub is_writing : Status → Bool
is_writing Writing = true
is_writing _ = false

-- the barrier: a clock at or above the limit
abbrev pub waits_for_limit : Policy → ℕ → ℕ → Bool
waits_for_limit LaxBarrier clock limit = nat_le limit clock
waits_for_limit _ clock limit = false

-- the probe: with another tile, a clock at or above the next check
abbrev pub looks_around : Policy → ℕ → ℕ → ℕ → Bool
looks_around LaxP2p tiles clock next_check = nat_lt 1 tiles && nat_le next_check clock
looks_around _ tiles clock next_check = false

-- the first rule: the thread's limit is reached, which the control server is told
abbrev pub reaches : Setup → Tile → Act
reaches w t = record (quiet (with_status t (AtBarrier (is_writing t.core.status)))) { mail = (control_node w.config, Reached t.core.thread) ∷ [] }

-- the second: a partner is drawn and asked its clock
abbrev pub probes : Tile → Act
probes t = record (quiet (with_status (record t { probes = after_draw t.probes }) (Probing (is_writing t.core.status) (partner_of t.probes) 0))) {
  mail = (partner_of t.probes, Probe) ∷ [];
}

-- a line that isn't there, or not as it has to be, is asked for
abbrev pub misses : Setup → Tile → ℕ → Want → Option Asked → Act
misses w t line want access = record (quiet (record (with_status t (Miss access)) { misses = one_more t.misses })) {
  mail = to_home w line (Asks want) ∷ [];
}

-- the third: all bytes of a write are read, and it is sent
abbrev pub sends_write : Setup → Tile → Act
sends_write w t = record (quiet (with_status t Called)) {
  mail = (control_node w.config, Call t.core.thread t.core.clock (WriteCall t.core.write.got)) ∷ [];
}

-- the fourth: the next byte of a write, from its line where the cache has it
abbrev pub reads_byte_by : Setup → Tile → ℕ → Option Way → Act
reads_byte_by w t addr None = misses w t (line_at addr) Read None
reads_byte_by w t addr (Some way) =
    record (quiet (record (with_byte_got t (touched t.cache (line_at addr)) addr way.content w.config.mem_cost) { hits = one_more t.hits })) {
      action = Some (LoadByte t.core.thread);
    }

abbrev pub reads_byte : Setup → Tile → ℕ → Act
reads_byte w t addr = reads_byte_by w t addr (way_of t.cache (line_at addr))

abbrev pub writes : Setup → Tile → Act
writes w t = if is_gathered t.core.write then sends_write w t else reads_byte w t (next_byte t.core.write)

-- the fifth: the next instruction, by its plan. An instruction that commits is counted, one that traps isn't

-- an instruction commits with a change of the core
abbrev pub executes : Tile → Act
executes t = record (quiet (record t { instr = one_more t.instr })) { action = Some (Exec t.core.thread) }

-- a data access: done at once on the line, where the cache has it as the access needs it
abbrev pub accesses_by : Setup → Tile → Asked → Option Way → Act
accesses_by w t access None = misses w t (line_at access.addr) (access_want access.op) (Some access)
accesses_by w t access (Some way) =
    if suits access.op way.hold
    then record (quiet (record (with_access t (touched t.cache (line_at access.addr)) access way.content (access_cost w access)) { hits = one_more t.hits })) {
      action = Some (Exec t.core.thread);
    }
    else misses w t (line_at access.addr) (access_want access.op) (Some access)

abbrev pub accesses : Setup → Tile → Asked → Act
accesses w t access = accesses_by w t access (way_of t.cache (line_at access.addr))

-- what needs nothing but the core
abbrev pub does_locally : Tile → ℕ → ℕ → ℕ → ℕ → Act
does_locally t rd value pc cost = executes (record t { core = later (record t.core { regs = with_register t.core.regs rd value; pc = pc }) cost })

-- a store-conditional without its reservation fails
abbrev pub fails_conditional : Config → Tile → ℕ → Act
fails_conditional c t rd =
    record (executes (record t { core = later (record t.core { regs = with_register t.core.regs rd 1; pc = next_pc t.core.pc; reservation = None }) c.amo_cost })) {
      action = Some (FailSc t.core.thread);
    }

-- a call is sent to the control server
abbrev pub sends_call : Setup → Tile → CallOf → Act
sends_call w t call = record (executes (with_status t Called)) { mail = (control_node w.config, Call t.core.thread t.core.clock call) ∷ [] }

-- the thread exits, which the local server of the tile's host is told
abbrev pub exits : Setup → Tile → ℕ → Act
exits w t code =
    record (executes (with_status t Idle)) {
      mail = (local_node w.config (host_of w.config t.number), ExitMsg t.core.thread code t.core.clock) ∷ [];
    }

-- a write begins
abbrev pub begins_write : Tile → ℕ → ℕ → Act
begins_write t addr len = executes (record t { core = record t.core { status = Writing; write = write_of addr len } })

-- the instruction traps, which the control server is told
abbrev pub traps : Setup → Tile → Cause → Act
traps w t cause =
    record (quiet (with_status t Trapped)) {
      mail = (control_node w.config, TrappedMsg t.core.thread cause t.core.pc) ∷ [];
      action = Some (Exec t.core.thread);
    }

-- each plan
abbrev pub follows : Setup → Tile → Plan → Act
follows w t (Local rd value pc cost answered) = does_locally t rd value pc cost
follows w t (Access access) = accesses w t access
follows w t (ScFails rd) = fails_conditional w.config t rd
follows w t (Send call) = sends_call w t call
follows w t (Exit code) = exits w t code
follows w t (Write addr len) = begins_write t addr len
follows w t (Trap cause) = traps w t cause

-- what a step does besides the policies
abbrev pub works : Setup → Tile → Act
works w t = if is_writing t.core.status then writes w t else follows w t (plan_of w t.core)

-- the step
abbrev pub tile_step : Setup → Tile → Act
tile_step w t =
    if waits_for_limit w.config.policy t.core.clock t.core.limit then reaches w t
    else (if looks_around w.config.policy w.config.tiles t.core.clock t.core.next_check then probes t
    else works w t)
