-- What most instructions ask for is their plan.
use Rattle.std.proofs.Common.{◌≡◌, ℕ, ◌++◌, Bool, true, false, List, Some, refl, sym, ap, ◌∙◌}
use Rattle.std.specs.Prelude.{not, ◌&&◌, Ok}
use Rattle.std.proofs.lemmas.Bool.{and_parts}
use Rattle.std.specs.Bool.{OnTrue}
use Rattle.std.proofs.lemmas.List.{append-nil}
use Rattle.sim_base.specs.declared.actions.Action.TheVariants.{Exec}
use Rattle.sim_base.specs.declared.kinds.CostClass.{CostClass}
use Rattle.sim_base.specs.declared.settings.Config.{Config}
use Rattle.elf_image.specs.Layout.{Setup, instruction}
use Rattle.mesh_model.specs.Cost.{cost_of}
use Rattle.rv_decode.specs.declared.instr.Instr.{Instr}
use Rattle.rv_exec.specs.declared.meaning.Meaning.TheVariants.{Next, Access as AccessMeaning}
use Rattle.rv_exec.specs.Access.{Asked}
use Rattle.rv_exec.specs.Class.{class_of}
use Rattle.rv_exec.specs.Effect.{effect_of}
use Rattle.rv_hart.specs.Inner.{is_allowed}
use Rattle.rv_hart.specs.Step.{meaning_step}
use Rattle.rv_hart.proofs.InstructionLemmas.{lent_step, allowed_step}
use Rattle.tile_core.specs.declared.cores.TileCore.{TileCore}
use Rattle.tile_core.specs.declared.plans.Plan.TheVariants.{Local, Access}
use Rattle.tile_core.specs.Plan.{plan_by, plan_of}
use Rattle.tile_core.specs.declared.cores.Status.{Status}
use Rattle.tile_core.specs.declared.cores.Status.TheVariants.{Idle, Run, Miss, Called, Writing, AtBarrier, Probing, Trapped}
use Rattle.wire_msg.specs.declared.messages.Msg.{Msg}
use Rattle.tile_node.specs.Tile.{Tile, Act}
use Rattle.tile_node.specs.Answers.{Answers, IsOf}
use Rattle.tile_node.specs.AtOnce.{IsQuietStep, StepsQuietly, runs, runs_freely}
use Rattle.tile_node.specs.Step.{accesses, does_locally, follows, tile_step, steps_in, can_step, waits_for_limit, looks_around}
use Rattle.tile_node.specs.declared.at_once.Attempt.{Attempt}
use Rattle.tile_node.specs.declared.at_once.Attempt.TheVariants.{Done, Asks, Other}
use Rattle.tile_node.specs.Inner.{Attempts, is_done}
use Rattle.tile_node.proofs.Fits.{step_fits}
use Rattle.tile_node.proofs.OneLinePlain.{step_keeps_number}

-- the plan of an instruction, by what it means
plan_by_meaning : (w : Setup) (core : TileCore) (i : Instr) → instruction w core.pc ≡ Some i
    → plan_of w core ≡ plan_by w core.pc (meaning_step w core.regs core.reservation core.thread (class_of i) (effect_of i core.regs core.pc))
plan_by_meaning w core i found = ap (plan_by w core.pc) (lent_step w core.regs core.pc core.reservation core.thread i found)

plan_of_next : (w : Setup) (core : TileCore) (i : Instr) (rd value pc : ℕ) → instruction w core.pc ≡ Some i
    → effect_of i core.regs core.pc ≡ Next rd value pc
    → plan_of w core ≡ Local rd value pc (cost_of w.config (class_of i)) false
plan_of_next w core i rd value pc found e =
    plan_by_meaning w core i found ∙ ap (λ m. plan_by w core.pc (meaning_step w core.regs core.reservation core.thread (class_of i) m)) e

-- an instruction that gives a register a number is done at once by its plan
pub next_at_once : (w : Setup) (v t : Tile) → v ≡ t → (new : Tile) (i lent : Instr) (rd value pc cost : ℕ) (class : CostClass)
    → instruction w v.core.pc ≡ Some i → lent ≡ i → effect_of lent v.core.regs v.core.pc ≡ Next rd value pc → class ≡ class_of i
    → cost ≡ cost_of w.config class → new ≡ (does_locally t rd value pc cost).tile
    → IsQuietStep t new (follows w t (plan_of w t.core))
next_at_once w v t is new i lent rd value pc cost class found same e of_class of_cost made =
    let plan : plan_of w t.core ≡ Local rd value pc (cost_of w.config (class_of i)) false =
    rw (← is) (plan_of_next w v.core i rd value pc found (rw same at e)) in
    let dear : cost ≡ cost_of w.config (class_of i) = rw of_class at of_cost in
    rw plan (record { tile = rw dear at made; quiet = refl; commits = refl; stays = rw made refl })

plan_of_access : (w : Setup) (core : TileCore) (i : Instr) (access : Asked) → instruction w core.pc ≡ Some i
    → effect_of i core.regs core.pc ≡ AccessMeaning access → is_allowed w core.reservation access ≡ true
    → plan_of w core ≡ Access access
plan_of_access w core i access found e h =
    plan_by_meaning w core i found
    ∙ ap (λ m. plan_by w core.pc (meaning_step w core.regs core.reservation core.thread (class_of i) m)) e
    ∙ ap (plan_by w core.pc) (allowed_step w core.reservation access h)

-- so is an access that is allowed
pub access_planned : (w : Setup) (v t : Tile) → v ≡ t → (i lent : Instr) (access : Asked) (allowed : Bool) → instruction w v.core.pc ≡ Some i
    → lent ≡ i → effect_of lent v.core.regs v.core.pc ≡ AccessMeaning access → allowed ≡ is_allowed w v.core.reservation access → allowed ≡ true
    → plan_of w t.core ≡ Access access
access_planned w v t is i lent access allowed found same e tells has =
    rw (← is) (plan_of_access w v.core i access found (rw same at e) (sym tells ∙ has))

pub access_done : (w : Setup) (t new : Tile) (access : Asked) (does : Bool) → plan_of w t.core ≡ Access access → does ≡ true
    → StepsQuietly does t new (accesses w t access) → IsQuietStep t new (follows w t (plan_of w t.core))
access_done w t new access does plan has made =
    let done : StepsQuietly true t new (accesses w t access) = rw has at made in
    rw plan done

pub access_asked : (w : Setup) (t new : Tile) (access : Asked) (does : Bool) → does ≡ false → StepsQuietly does t new (accesses w t access) → new ≡ t
access_asked w t new access does not made =
    let left : StepsQuietly false t new (accesses w t access) = rw not at made in
    left

-- what an attempt did
pub attempted : (w : Setup) (attempt : Attempt) (t new : Tile) → Attempts w attempt t new
    → StepsQuietly (is_done attempt) t new (follows w t (plan_of w t.core))
attempted w Done t new made = made
attempted w (Asks access) t new made = made.0
attempted w Other t new made = made

-- a thread that runs freely executes an instruction in its step
by_tests : (w : Setup) (t : Tile) (status : Status) (waits looks : Bool) → t.core.status ≡ status → waits_for_limit w.config.policy t.core.clock t.core.limit ≡ waits
    → looks_around w.config.policy w.config.tiles t.core.clock t.core.next_check ≡ looks → (runs status && not waits && not looks) ≡ true
    → tile_step w t ≡ follows w t (plan_of w t.core)
by_tests w t Run false false is waits looks h = rw (is, waits, looks) refl
by_tests w t Run false true is waits looks h = cc
by_tests w t Run true looks is waits e h = cc
by_tests w t Idle b c is waits looks h = cc
by_tests w t (Miss access) b c is waits looks h = cc
by_tests w t Called b c is waits looks h = cc
by_tests w t Writing b c is waits looks h = cc
by_tests w t (AtBarrier writing) b c is waits looks h = cc
by_tests w t (Probing writing partner replies) b c is waits looks h = cc
by_tests w t Trapped b c is waits looks h = cc

pub free_step : (w : Setup) (t : Tile) → runs_freely w.config t.core ≡ true → tile_step w t ≡ follows w t (plan_of w t.core)
free_step w t h = by_tests w t t.core.status (waits_for_limit w.config.policy t.core.clock t.core.limit)
    (looks_around w.config.policy w.config.tiles t.core.clock t.core.next_check) refl refl refl h

-- so its step is an access where that is its plan
pub asked_step : (w : Setup) (t : Tile) (access : Asked) → runs_freely w.config t.core ≡ true → plan_of w t.core ≡ Access access
    → tile_step w t ≡ accesses w t access
asked_step w t access free plan = free_step w t free ∙ ap (follows w t) plan

-- a step that is made at once
by_status : (status : Status) → runs status ≡ true → steps_in status ≡ true
by_status Run h = refl
by_status Idle h = cc
by_status (Miss access) h = cc
by_status Called h = cc
by_status Writing h = cc
by_status (AtBarrier writing) h = cc
by_status (Probing writing partner replies) h = cc
by_status Trapped h = cc

can_again : (w : Setup) (t new : Tile) (does : Bool) (act : Act) → runs_freely w.config t.core ≡ true → StepsQuietly does t new act → OnTrue does (can_step new ≡ true)
can_again w t new true act free made =
    let waits = waits_for_limit w.config.policy t.core.clock t.core.limit in
    let looks = looks_around w.config.policy w.config.tiles t.core.clock t.core.next_check in
    let ran : runs t.core.status ≡ true = (and_parts (runs t.core.status) (not waits) (and_parts (runs t.core.status && not waits) (not looks) free).0).0 in
    rw made.stays (by_status t.core.status ran)
can_again w t new false act free made = tt

step_made : (w : Setup) (t new : Tile) (does : Bool) → runs_freely w.config t.core ≡ true → StepsQuietly does t new (follows w t (plan_of w t.core))
    → StepsQuietly does t new (tile_step w t)
step_made w t new does free made = rw (free_step w t free) made

-- what is known of the tile after a step that was made at once, or wasn't
pub record IsSteppedAtOnce (w : Setup) (t new : Tile) (does : Bool) : Type 0 where
  pub step : StepsQuietly does t new (tile_step w t)
  pub again : OnTrue does (can_step new ≡ true)
  pub fits : IsOf w new
  pub number : new.number ≡ t.number

after_step : (w : Setup) (t new : Tile) (does : Bool) → IsOf w t → OnTrue does (can_step new ≡ true) → StepsQuietly does t new (tile_step w t) → IsSteppedAtOnce w t new does
after_step w t new true fits again made = record {
  step = made;
  again = again;
  fits = rw made.tile (step_fits w t fits);
  number = ap (λ (a : Tile). a.number) made.tile ∙ step_keeps_number w t;
}
after_step w t new false fits again made = record { step = made; again = again; fits = rw made fits; number = ap (λ (a : Tile). a.number) made }

pub made_at_once : (w : Setup) (t new : Tile) (config : Config) (free does : Bool) → config ≡ w.config → IsOf w t → free ≡ runs_freely config t.core → free ≡ true
    → StepsQuietly does t new (follows w t (plan_of w t.core)) → IsSteppedAtOnce w t new does
made_at_once w t new config free does same fits tells has made =
    let free : runs_freely w.config t.core ≡ true = rw same at (sym tells ∙ has) in
    after_step w t new does fits (can_again w t new does _ free made) (step_made w t new does free made)

pub done_at_once : (w : Setup) (t new : Tile) (config : Config) (free : Bool) (attempt : Attempt) → config ≡ w.config → IsOf w t → free ≡ runs_freely config t.core
    → free ≡ true → attempt ≡ Done → Attempts w attempt t new → IsSteppedAtOnce w t new true
done_at_once w t new config free attempt same fits tells has is made =
    let done : Attempts w Done t new = rw is at made in
    made_at_once w t new config free true same fits tells has done

-- what the step answers that did its instruction at once
pub answers_at_once : (w : Setup) (v t : Tile) → v ≡ t → (new : Tile) (sent : List (ℕ × Msg)) → IsQuietStep t new (tile_step w t) → v.spent ≡ false
    → Answers (Ok (Some (Exec v.core.thread))) t new sent sent (tile_step w t)
answers_at_once w v t is new sent made able =
    let stays : sent ≡ sent ++ (tile_step w t).mail = sym (ap (λ m. sent ++ m) made.quiet ∙ append-nil sent) in
    (rw is at able, made.tile, stays, rw is (sym made.commits))
