-- For the contracts of the code alone: which steps of a tile are quiet, instructions that need nothing but the tile, and what
-- the code that makes them at once answers. The definition of a step doesn't speak of them. This simulator's own.
use Rattle.std.specs.Prelude.{◌≡◌, ◌&&◌, not, Bool, true, false, [], Option, Some, None, is_some}
use Rattle.sim_base.specs.declared.actions.Action.TheVariants.{Exec}
use Rattle.sim_base.specs.declared.settings.Config.{Config}
use Rattle.elf_image.specs.Layout.{Setup, instruction}
use Rattle.rv_decode.specs.declared.instr.Instr.{Instr}
use Rattle.rv_exec.specs.declared.access.AccessOp.{AccessOp}
use Rattle.rv_exec.specs.declared.access.AccessOp.TheVariants.{Load, Store}
use Rattle.rv_exec.specs.declared.meaning.Meaning.{Meaning}
use Rattle.rv_exec.specs.declared.meaning.Meaning.TheVariants.{Next, Access}
use Rattle.rv_exec.specs.Access.{Asked}
use Rattle.rv_exec.specs.Effect.{effect_of}
use Rattle.rv_hart.specs.Inner.{is_allowed}
use Rattle.tile_cache.specs.declared.ways.Hold.{Hold}
use Rattle.tile_cache.specs.Cache.{hold_of, is_m}
use Rattle.tile_core.specs.declared.cores.TileCore.{TileCore}
use Rattle.tile_core.specs.declared.cores.Status.{Status}
use Rattle.tile_core.specs.declared.cores.Status.TheVariants.{Run}
use Rattle.tile_core.specs.Core.{line_at}
use Rattle.tile_node.specs.Tile.{Tile, Act}
use Rattle.tile_node.specs.Step.{waits_for_limit, looks_around}

-- whether a core's thread executes an instruction in its step: it runs, and no policy holds it up
abbrev pub runs : Status → Bool
runs Run = true
runs _ = false

abbrev pub runs_freely : Config → TileCore → Bool
runs_freely c core = runs core.status && not (waits_for_limit c.policy core.clock core.limit) && not (looks_around c.policy c.tiles core.clock core.next_check)

-- whether an access is a load whose line the cache has, or a store whose line it has in M
abbrev pub is_plain_hit : AccessOp → Option Hold → Bool
is_plain_hit Load hold = is_some hold
is_plain_hit Store hold = is_m hold
is_plain_hit _ hold = false

abbrev pub hits_plainly : Tile → Asked → Bool
hits_plainly t access = is_plain_hit access.op (hold_of t.cache (line_at access.addr))

-- whether an instruction needs nothing but the tile, by what it means: a number for a register, or such an access, which is
-- made as it is asked for
abbrev pub is_local : Setup → Tile → Meaning → Bool
is_local w t (Next rd value pc) = true
is_local w t (Access access) = is_allowed w t.core.reservation access && hits_plainly t access
is_local w t _ = false

abbrev pub executes_at_once : Setup → Tile → Option Instr → Bool
executes_at_once w t None = false
executes_at_once w t (Some i) = is_local w t (effect_of i t.core.regs t.core.pc)

-- whether a tile's step is made at once
abbrev pub steps_at_once : Setup → Tile → Bool
steps_at_once w t = not t.spent && runs_freely w.config t.core && executes_at_once w t (instruction w t.core.pc)

-- a quiet step is an act that is an instruction of the thread, sends nothing and leaves the core's status
pub record IsQuietStep (old new : Tile) (act : Act) : Type 0 where
  pub tile : new ≡ act.tile
  pub quiet : act.mail ≡ []
  pub commits : act.action ≡ Some (Exec old.core.thread)
  pub stays : new.core.status ≡ old.core.status

-- what a function answers that makes such a step; where it doesn't nothing changes
abbrev pub StepsQuietly : Bool → Tile → Tile → Act → Type 0
StepsQuietly true old new act = IsQuietStep old new act
StepsQuietly false old new act = new ≡ old
