-- For the contracts of the code alone: no clause of a public function needs this. What a rule's function answers, and
-- parts of acts.
use Rattle.std.specs.Prelude.{ℕ, ◌≡◌, ◌++◌, Bool, true, false, List, [], Option, Result, Ok, Err}
use Rattle.sim_base.specs.declared.actions.Action.{Action}
use Rattle.sim_base.specs.declared.memory.NoMemory.{NoMemory}
use Rattle.wire_msg.specs.declared.messages.Msg.{Msg}
use Rattle.rv_exec.specs.declared.access.AccessOp.{AccessOp}
use Rattle.rv_exec.specs.declared.access.Done.{Done as DoneAccess}
use Rattle.rv_exec.specs.Access.{Asked}
use Rattle.sim_base.specs.declared.settings.Config.{Config}
use Rattle.elf_image.specs.Layout.{Setup}
use Rattle.mesh_model.specs.Cost.{cost_of}
use Rattle.tile_core.specs.declared.plans.Plan.TheVariants.{Access}
use Rattle.tile_core.specs.Plan.{plan_of}
use Rattle.tile_node.specs.declared.at_once.Attempt.{Attempt}
use Rattle.tile_node.specs.declared.at_once.Attempt.TheVariants.{Done, Asks, Other}
use Rattle.tile_node.specs.AtOnce.{IsQuietStep}
use Rattle.tile_node.specs.Step.{follows}
use Rattle.tile_node.specs.Tile.{Tile, Act, accessed, with_written, one_more, later, access_class}

-- want of memory leaves a tile in its place, and its core as it was
pub record IsKept (old new : Tile) : Type 0 where
  pub number : new.number ≡ old.number
  pub home : new.slice.tile ≡ old.slice.tile
  pub tiles : new.slice.tiles ≡ old.slice.tiles
  pub stream : new.probes.tiles ≡ old.probes.tiles
  pub asker : new.probes.tile ≡ old.probes.tile
  pub core : new.core ≡ old.core

-- what a rule's function answers
abbrev pub Makes : Result (Option Action) NoMemory → Tile → Tile → List (ℕ × Msg) → List (ℕ × Msg) → Act → Type 0
Makes (Ok action) old new out_old out_new act = (new ≡ act.tile) × (out_new ≡ out_old ++ act.mail) × (action ≡ act.action)
Makes (Err e) old new out_old out_new act = IsKept old new

-- the same of a function that sends nothing
abbrev pub MakesAlone : Option Action → Tile → Act → Type 0
MakesAlone action new act = (new ≡ act.tile) × (act.mail ≡ []) × (action ≡ act.action)

-- whether an attempt to do the next instruction at once did it
abbrev pub is_done : Attempt → Bool
is_done Done = true
is_done (Asks access) = false
is_done Other = false

-- what it answers: the instruction is done by its plan; or nothing changed, and its plan may be known to be an access
abbrev pub Attempts : Setup → Attempt → Tile → Tile → Type 0
Attempts w Done old new = IsQuietStep old new (follows w old (plan_of w old.core))
Attempts w (Asks access) old new = (new ≡ old) × (plan_of w old.core ≡ Access access)
Attempts w Other old new = new ≡ old

-- a tile whose thread has gone past an access that is done, at the same clock and with the same cache
abbrev pub past : Tile → Asked → DoneAccess → Tile
past t access done = record t { core = accessed t.core access done; instr = one_more t.instr }

-- a tile whose thread has done an access on the lines of its cache, at the same clock
abbrev pub with_done : Tile → Asked → DoneAccess → Tile
with_done t access done = record t {
  core = accessed t.core access done;
  cache = with_written t.cache access done.write;
  instr = one_more t.instr;
}

-- a tile whose access of this kind was done at its step, so many cycles later as such an access costs
abbrev pub after_hit : Config → Tile → AccessOp → Tile
after_hit c t op = record t { core = later t.core (cost_of c (access_class op)); hits = one_more t.hits }
