-- What a tile's calls ask for and answer.
use Rattle.std.specs.Prelude.{ℕ, ◌<◌, ◌≡◌, ◌++◌, true, false, List, length, Option, None, Result, Ok, Err}
use Rattle.sim_base.specs.declared.actions.Action.{Action}
use Rattle.sim_base.specs.declared.memory.NoMemory.{NoMemory}
use Rattle.elf_image.specs.Layout.{Setup}
use Rattle.wire_msg.specs.declared.messages.Msg.{Msg}
use Rattle.tile_core.specs.declared.cores.Status.{Status}
use Rattle.tile_core.specs.declared.cores.Status.TheVariants.{Miss, Probing}
use Rattle.tile_core.specs.Gathering.{Gathering}
use Rattle.clock_policy.specs.Probe.{IsStreamOf}
use Rattle.tile_node.specs.Tile.{Tile, Act}

-- what is known of a core that waits: the byte that a miss is for is one of its write's, and there was no eighth reply to
-- a probe
abbrev pub WaitsRightly : Status → Gathering → Type 0
WaitsRightly (Miss None) write = length write.got < write.len
WaitsRightly (Probing writing partner replies) write = replies < 8
WaitsRightly _ write = Unit {0}

-- a tile fits a machine: it is one of the machine's, its slice and its stream are of that tile and that machine, and its
-- core waits rightly
pub record IsOf (w : Setup) (t : Tile) : Type 0 where
  pub number : t.number < w.config.tiles
  pub home : t.slice.tile ≡ t.number
  pub tiles : t.slice.tiles ≡ w.config.tiles
  pub stream : IsStreamOf w.config t.number t.probes
  pub waits : WaitsRightly t.core.status t.core.write

-- what a step or a delivery answers: Ok where the tile wasn't spent, with the tile and the action of the act, and with
-- what it sends after what was there; after want of memory the tile is spent, and nothing is said of what was sent
abbrev pub Answers : Result (Option Action) NoMemory → Tile → Tile → List (ℕ × Msg) → List (ℕ × Msg) → Act → Type 0
Answers (Ok action) old new out_old out_new act = (old.spent ≡ false) × (new ≡ act.tile) × (out_new ≡ out_old ++ act.mail) × (action ≡ act.action)
Answers (Err e) old new out_old out_new act = new.spent ≡ true
