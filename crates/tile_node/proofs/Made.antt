-- What the code of a rule has made is what the rule says: for one tile, its view and the parts that changed.
use Rattle.std.proofs.Common.{◌≡◌, ℕ, ◌+◌, ◌++◌, List, [], ◌∷◌, max, true, refl, sym, ap, ◌∙◌, eq-eqb}
use Rattle.std.specs.Prelude.{Bool, ◌==◌, ◌&&◌, slice_index, Option, Some, None, Ok}
use Rattle.std.proofs.lemmas.List.{append-nil}
use Rattle.sim_base.specs.declared.actions.Action.{Action}
use Rattle.sim_base.specs.declared.actions.Action.TheVariants.{Return as ReturnAction}
use Rattle.sim_base.specs.declared.lines.LineData.{LineData}
use Rattle.sim_base.specs.declared.settings.Config.{Config}
use Rattle.sim_base.specs.LittleEndian.{loaded}
use Rattle.sim_base.specs.Numbering.{home_of}
use Rattle.sim_base.specs.Saturated.{saturated}
use Rattle.elf_image.specs.Layout.{Setup}
use Rattle.mesh_model.specs.Cost.{cost_of}
use Rattle.rv_exec.specs.Access.{Asked, finish_of}
use Rattle.rv_hart.specs.Start.{next_pc, with_answer}
use Rattle.wire_msg.specs.declared.messages.Msg.{Msg}
use Rattle.wire_msg.specs.declared.lines.Want.{Want}
use Rattle.wire_msg.specs.declared.lines.Up.{Up}
use Rattle.wire_msg.specs.declared.lines.Up.TheVariants.{Asks}
use Rattle.tile_core.specs.declared.cores.Status.{Status}
use Rattle.tile_core.specs.declared.cores.Status.TheVariants.{Run, Miss, Called}
use Rattle.tile_core.specs.Gathering.{Gathering}
use Rattle.tile_core.specs.Core.{line_missed}
use Rattle.tile_cache.specs.declared.ways.Hold.{Hold}
use Rattle.tile_cache.specs.declared.ways.Hold.TheVariants.{S, M}
use Rattle.tile_cache.specs.Cache.{Sets, victim_of, placed}
use Rattle.dir_slice.specs.Directory.{Slice, Mail, reaction, home_at, Answers as HomeAnswers}
use Rattle.tile_node.specs.Tile.{Tile, up_message, with_status, one_more, access_class, place_in_line}
use Rattle.tile_node.specs.Step.{misses}
use Rattle.tile_node.specs.Deliver.{home_does, hold_suits, data_taken, return_taken, victim_tile, victim_mail, waiting_done, waiting_action}
use Rattle.tile_node.specs.Inner.{Makes, MakesAlone, with_done}

-- the home's role
by_home : (w : Setup) (t : Tile) (from line : ℕ) (says : Up) (config : Config) (tile : ℕ) (slice : Slice) (before after : Mail) → config ≡ w.config → tile ≡ t.number
    → HomeAnswers (Ok tt) t.slice slice before after line (reaction config tile line (home_at t.slice.homes line) from says)
    → Makes (Ok None) t (record t { slice = slice }) before after (home_does w t from line says)
by_home w t from line says config tile slice before after same here h =
    let made = rw (same, here) at h in (ap (λ (s : Slice). record t { slice = s }) made.1, made.2, refl)

pub home_makes : (w : Setup) (v t : Tile) → v ≡ t → (from line : ℕ) (says : Up) (config : Config) → config ≡ w.config → t.slice.tile ≡ t.number
    → (slice : Slice) (before after : Mail) → HomeAnswers (Ok tt) v.slice slice before after line (reaction config v.slice.tile line (home_at v.slice.homes line) from says)
    → Makes (Ok None) t (record v { slice = slice }) before after (home_does w t from line says)
home_makes w v t is from line says config same here slice before after h =
    rw (← is) (by_home w v from line says config v.slice.tile slice before after same (rw (← is) at here) h)

-- a miss
pub miss_makes : (w : Setup) (v t : Tile) → v ≡ t → (line : ℕ) (want : Want) (access : Option Asked) (home : ℕ) (msg : Msg) (count : ℕ) (before after : Mail)
    → home ≡ home_of w.config line → msg ≡ up_message line (Asks want) → count ≡ one_more v.misses → after ≡ before ++ (home, msg) ∷ []
    → Makes (Ok None) t (record (with_status v (Miss access)) { misses = count }) before after (misses w t line want access)
miss_makes w v t is line want access home msg count before after there said counted sent = rw (← is, sent, counted, said, there) (refl, refl, refl)

-- an answer to a call
pub return_makes : (w : Setup) (v t : Tile) → v ≡ t → (value time limit clock : ℕ) (regs : List ℕ) → v.core.status ≡ Called
    → regs ≡ with_answer v.core.regs value → clock ≡ saturated (max v.core.clock time + w.config.call_cost)
    → MakesAlone (Some (ReturnAction v.core.thread)) (record v { core = record v.core { regs = regs; pc = next_pc v.core.pc; clock = clock; limit = limit; status = Run } })
    (return_taken w t value time limit t.core.status)
return_makes w v t is value time limit clock regs called answered later = rw (← is, called, answered, later) (refl, refl, refl)

-- a line that comes and isn't missed
pub not_missed : (w : Setup) (t : Tile) (line : ℕ) (hold : Hold) (content : LineData) (delay : ℕ) (out : Mail) (s : Status)
    → ((access : Option Asked) → s ≡ Miss access → ⊥) → Makes (Ok None) t t out out (data_taken w t line hold content delay s)
not_missed w t line hold content delay out (Miss access) other = absurd (other access refl)
not_missed w t line hold content delay out _ other = (refl, sym (append-nil _), refl)

-- a line that comes, for what waits for it
pub is_missed : (access : Option Asked) (write : Gathering) (line missed : ℕ) (hold : Hold) (enough : Bool)
    → missed ≡ line_missed write access → missed ≡ line → enough ≡ hold_suits access hold → enough ≡ true
    → (line_missed write access == line && hold_suits access hold) ≡ true
is_missed access write line missed hold enough is here suits granted =
    let same : (line_missed write access == line) ≡ true = eq-eqb (line_missed write access) line (sym is ∙ here) in
    rw (same, ← suits, granted) refl

thread_stays : (t : Tile) (victim : Option (ℕ × Hold)) → (victim_tile t victim).core.thread ≡ t.core.thread
thread_stays t None = refl
thread_stays t (Some (line, M)) = refl
thread_stays t (Some (line, S)) = refl

placed_made : (w : Setup) (t room : Tile) (line : ℕ) (hold : Hold) (content : LineData) (delay : ℕ) (access : Option Asked) (s : Status) (cache : Sets) (new : Tile) (before after : Mail) (action : Action)
    → s ≡ Miss access → (line_missed t.core.write access == line && hold_suits access hold) ≡ true
    → room ≡ victim_tile t (victim_of t.cache line) → after ≡ before ++ victim_mail w t (victim_of t.cache line)
    → cache ≡ placed room.cache line hold content → new ≡ waiting_done w room cache access content delay → action ≡ waiting_action room.core.thread access
    → Makes (Ok (Some action)) t new before after (data_taken w t line hold content delay s)
placed_made w t room line hold content delay access s cache new before after action waits missed made sent there done acts =
    rw (waits, missed, done, there, acts, made, sent) (
      refl,
      refl,
      ap (λ n. Some (waiting_action n access)) (thread_stays t (victim_of t.cache line)),
    )

pub miss_ended : (w : Setup) (v t room : Tile) → v ≡ t → (line : ℕ) (hold : Hold) (content : LineData) (delay : ℕ) (access : Option Asked) (cache : Sets) (new : Tile) (before after : Mail) (action : Action)
    → v.core.status ≡ Miss access → (line_missed v.core.write access == line && hold_suits access hold) ≡ true
    → room ≡ victim_tile t (victim_of t.cache line) → after ≡ before ++ victim_mail w t (victim_of t.cache line)
    → cache ≡ placed room.cache line hold content → new ≡ waiting_done w room cache access content delay → action ≡ waiting_action room.core.thread access
    → Makes (Ok (Some action)) t new before after (data_taken w t line hold content delay t.core.status)
miss_ended w v t room is line hold content delay access cache new before after action waits missed made sent there done acts =
    placed_made w t room line hold content delay access t.core.status cache new before after action (rw is at waits) (rw is at missed) made sent there done acts

-- the access that waited
pub access_ended : (w : Setup) (v t : Tile) (access : Asked) (content : LineData) (delay old place size cost clock : ℕ)
    → v ≡ with_done t access (finish_of access old) → old ≡ loaded (slice_index content.bytes) place size → place ≡ place_in_line access.addr → size ≡ access.size
    → cost ≡ cost_of w.config (access_class access.op) → clock ≡ saturated (v.core.clock + (cost + delay))
    → record (with_status v Run) { core = record v.core { status = Run; clock = clock } } ≡ waiting_done w t t.cache (Some access) content delay
access_ended w v t access content delay old place size cost clock done read here wide costs later = rw (later, done, read, here, wide, costs) refl
