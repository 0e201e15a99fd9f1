-- A tile's core: the registers and clock of the thread that it runs. After Graphite (HPCA 2010); the statuses are this
-- simulator's own.
use Rattle.std.specs.Prelude.{ℕ, ◌+◌, ◌/◌, ◌%◌, ◌^◌, length, Option, Some, None}
use Rattle.rv_exec.specs.Registers.{zeros}
use Rattle.rv_exec.specs.Access.{Asked}
use Rattle.elf_image.specs.Layout.{Setup}
use Rattle.sim_base.specs.Saturated.{saturated}
use Rattle.rv_hart.specs.Start.{start_registers}
use Rattle.tile_core.specs.declared.cores.TileCore.{TileCore}
use Rattle.tile_core.specs.Gathering.{Gathering, no_write}
use Rattle.tile_core.specs.declared.cores.Status.TheVariants.{Idle, Run}

-- a core on which no thread was yet
abbrev pub idle_core : TileCore
idle_core = record { regs = zeros; pc = 0; thread = 0; status = Idle; clock = 0; limit = 0; next_check = 0; reservation = None; write = no_write }

-- a core on which a thread begins, with a clock and a limit: the registers of its tile, no reservation, and the first
-- look at another tile's clock after one interval
abbrev pub begun : Setup → ℕ → ℕ → ℕ → ℕ → ℕ → ℕ → TileCore
begun w tile thread entry arg clock limit = record {
  regs = start_registers w tile arg;
  pc = entry;
  thread = thread;
  status = Run;
  clock = clock;
  limit = limit;
  next_check = saturated (clock + w.config.interval);
  reservation = None;
  write = no_write;
}

-- the line of an address
abbrev pub line_at : ℕ → ℕ
line_at addr = addr / 64

-- the address of the next byte of a write; addresses are numbers of 64 bits
abbrev pub next_byte : Gathering → ℕ
next_byte write = (write.addr + length write.got) % 2 ^ 64

-- the line that a miss waits for: that of its access, or of a write's next byte
abbrev pub line_missed : Gathering → Option Asked → ℕ
line_missed write (Some access) = line_at access.addr
line_missed write None = line_at (next_byte write)
