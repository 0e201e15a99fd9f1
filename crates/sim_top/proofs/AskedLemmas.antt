-- The settings, the image, the machine and the journal of a request, from their parts.
use Rattle.std.proofs.Common.{◌≡◌, ℕ, List, refl, sym, ap, subst, inl, inr}
use Rattle.std.specs.Prelude.{Option, Some, None, Result, Ok, Err}
use Rattle.sim_outside.specs.Told.{Contents}
use Rattle.sim_base.specs.declared.settings.Config.{Config}
use Rattle.sim_base.specs.declared.kinds.Kind.{Kind}
use Rattle.elf_image.specs.Image.{Program}
use Rattle.elf_image.specs.Layout.{Setup}
use Rattle.event_journal.specs.declared.events.Event.{Event}
use Rattle.sim_config.specs.declared.request.Request.{Request}
use Rattle.sim_config.specs.Request.{image_name, config_name, settings_unnamed, seed_of, replayed_name, workload_of}
use Rattle.workload_gen.specs.Workload.{IsWorkload}
use Rattle.sim_top.specs.declared.outcomes.Halt.{Halt}
use Rattle.sim_top.specs.Stage.{Reads, reads, ReadsWell, Stage, made, given, in_file, in_file_or, and_then}
use Rattle.sim_top.specs.Asked.{settings_said, image_said, journal_said, with_seed, settings, workload, image, machine, replayed}
use Rattle.sim_top.specs.Inner.{Tells}
use Rattle.sim_top.proofs.StageLemmas.{told_halt, told_then}

-- the settings

accepted : Request → Stage Config
accepted request = in_file_or (config_name request) settings_said (given (settings_unnamed request))

pub settings_halt : (request : Request) (name : List ℕ) (r : Reads) (halt : Halt) → config_name request ≡ Some name → Tells (in_file name settings_said) r (Err halt)
    → Tells (settings request) r (Err halt)
unfolding settings accepted
settings_halt request name r halt named is =
    told_halt (accepted request) (λ config. given (with_seed (seed_of request) config)) r halt
    (subst (λ n. Tells (in_file_or n settings_said (given (settings_unnamed request))) r (Err halt)) (sym named) is)

pub settings_given : (request : Request) (r : Reads) (config : Config) → in_file_or (config_name request) settings_said (given (settings_unnamed request)) r (Ok config)
    → settings request r (Ok (with_seed (seed_of request) config))
unfolding settings accepted
settings_given request r config is = inr (config, r.after, is, (refl, refl))

pub accepted_read : (request : Request) (name : List ℕ) (r : Reads) (config : Config) → config_name request ≡ Some name → in_file name settings_said r (Ok config)
    → in_file_or (config_name request) settings_said (given (settings_unnamed request)) r (Ok config)
accepted_read request name r config named is = subst (λ n. in_file_or n settings_said (given (settings_unnamed request)) r (Ok config)) (sym named) is

pub accepted_unnamed : (request : Request) (r : Reads) (config : Config) → config_name request ≡ None → ReadsWell r → config ≡ settings_unnamed request
    → in_file_or (config_name request) settings_said (given (settings_unnamed request)) r (Ok config)
accepted_unnamed request r config none well is =
    subst (λ n. in_file_or n settings_said (given (settings_unnamed request)) r (Ok config)) (sym none) (well, ap (λ c. Ok c) is)

-- the image

pub image_read : (request : Request) (name : List ℕ) (r : Reads) (answer : Result Program Halt) → image_name request ≡ Some name → Tells (in_file name image_said) r answer
    → Tells (image request) r answer
unfolding image
image_read request name r answer named is = subst (λ n. Tells (in_file_or n image_said (workload (workload_of request))) r answer) (sym named) is

pub image_made : (request : Request) (kind : Kind) (seed : ℕ) (r : Reads) (program : Program) → image_name request ≡ None → workload_of request ≡ Some (kind, seed)
    → ReadsWell r → IsWorkload kind seed program → image request r (Ok program)
unfolding image
image_made request kind seed r program none some well is =
    subst (λ n. in_file_or n image_said (workload (workload_of request)) r (Ok program)) (sym none)
    (subst (λ k. workload k r (Ok program)) (sym some) (well, is))

-- the machine

with_config : Request → Config → Stage Setup
with_config request config = and_then (image request) (λ program. given (record { config = config; image = program }))

pub no_settings : (request : Request) (r : Reads) (halt : Halt) → Tells (settings request) r (Err halt) → Tells (machine request) r (Err halt)
unfolding machine with_config
no_settings request r halt is = told_halt (settings request) (with_config request) r halt is

module _ (request : Request) (holds kept : Contents) (before between after : List ℕ → ℕ) (config : Config) (same : kept ≡ holds)
    (set : settings request (reads holds before between) (Ok config)) where
  pub no_image : (halt : Halt) → Tells (image request) (reads kept between after) (Err halt) → Tells (machine request) (reads holds before after) (Err halt)
  unfolding machine with_config
  no_image halt is =
      told_then (settings request) (with_config request) holds kept before between after config (Err halt) same set
      (told_halt (image request) (λ program. given (record { config = config; image = program })) (reads kept between after) halt is)

  pub machine_given : (program : Program) → image request (reads kept between after) (Ok program)
      → machine request (reads holds before after) (Ok (record { config = config; image = program }))
  unfolding machine with_config
  machine_given program is =
      told_then (settings request) (with_config request) holds kept before between after config (Ok (record { config = config; image = program })) same set
      (inr (program, after, is, (refl, refl)))

-- the journal

pub journal_read : (request : Request) (name : List ℕ) (r : Reads) (answer : Result (List Event) Halt) → replayed_name request ≡ Some name
    → Tells (in_file name journal_said) r answer → Tells (replayed request) r answer
unfolding replayed
journal_read request name r answer named is = subst (λ n. Tells (in_file_or n journal_said (made (λ events. ⊥) (λ outcome. ⊥))) r answer) (sym named) is
