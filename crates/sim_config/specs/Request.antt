-- The commands, what words mean, and what a request names. A request is taken apart by its fields here alone. This
-- simulator's own.
use Rattle.std.specs.Prelude.{◌≡◌, ℕ, List, [], ◌∷◌, if◌then◌else◌, Option, Some, None, option_and_then, Result, Ok, Err, codes}
use Rattle.std.specs.Option.{option_to_list}
use Rattle.std.specs.Str.{bytes_eq}
use Rattle.sim_base.specs.declared.kinds.Kind.{Kind}
use Rattle.sim_base.specs.declared.kinds.Kind.TheVariants.{Reduce}
use Rattle.sim_base.specs.declared.settings.Config.{Config}
use Rattle.sim_base.specs.Settings.{default_settings}
use Rattle.sim_config.specs.declared.faults.RequestFault.{RequestFault}
use Rattle.sim_config.specs.declared.faults.RequestFault.TheVariants.{Usage, NoMemory}
use Rattle.sim_config.specs.declared.request.Command.{Command}
use Rattle.sim_config.specs.declared.request.Command.TheVariants as command
use Rattle.sim_config.specs.declared.request.Request.{Request}
use Rattle.sim_config.specs.declared.request.Request.TheVariants as request
use Rattle.sim_config.specs.Words.{CommandForm, Given, given_in}
use Rattle.sim_config.specs.Request.Run.{run_form, run_of}
use Rattle.sim_config.specs.Request.Replay.{replay_form, replay_of}
use Rattle.sim_config.specs.Request.Gen.{gen_form, gen_of}
use Rattle.sim_config.specs.Request.Bench.{bench_form, bench_of}
pub mod Run
pub mod Replay
pub mod Gen
pub mod Bench

-- The commands

-- the command of a name
abbrev pub command_named : List ℕ → Option Command
command_named name =
    if bytes_eq name (codes "run") then Some command.Run
    else (if bytes_eq name (codes "replay") then Some command.Replay
    else (if bytes_eq name (codes "gen") then Some command.Gen
    else (if bytes_eq name (codes "bench") then Some command.Bench else None)))

-- the form of the words after a command
abbrev pub form_of : Command → CommandForm
form_of command.Run = run_form
form_of command.Replay = replay_form
form_of command.Gen = gen_form
form_of command.Bench = bench_form

-- the request that a command with these values makes, if it makes one
abbrev pub request_made : Command → Given → Option Request
request_made command.Run given = run_of given
request_made command.Replay given = replay_of given
request_made command.Gen given = gen_of given
request_made command.Bench given = bench_of given

-- What words mean

-- the request of a command with the words after it
abbrev pub command_meaning : Command → List (List ℕ) → Option Request
command_meaning command words = option_and_then (request_made command) (given_in (form_of command) words)

-- the request that words mean, if they mean one: the first is the command
unfoldable pub meaning : List (List ℕ) → Option Request
meaning [] = None
meaning (name ∷ words) = option_and_then (λ command. command_meaning command words) (command_named name)

-- an answer tells what words mean, or that memory ran out
abbrev pub TellsRequest : Result Request RequestFault → Option Request → Type 0
TellsRequest (Ok asked) meant = meant ≡ Some asked
TellsRequest (Err Usage) meant = meant ≡ None
TellsRequest (Err NoMemory) meant = Unit {0}

-- What a request names

-- the command that makes a request
abbrev pub asked_command : Request → Command
asked_command (request.Run image config seed journal) = command.Run
asked_command (request.Replay image journal config seed) = command.Replay
asked_command (request.Gen kind seed out) = command.Gen
asked_command (request.Bench seed) = command.Bench

-- the file of the image that is run
abbrev pub image_name : Request → Option (List ℕ)
image_name (request.Run image config seed journal) = Some image
image_name (request.Replay image journal config seed) = Some image
image_name _ = None

-- the file of the settings
abbrev pub config_name : Request → Option (List ℕ)
config_name (request.Run image config seed journal) = config
config_name (request.Replay image journal config seed) = config
config_name _ = None

-- the settings where no file of them is named: the default ones, with 16 tiles for `bench`
abbrev pub settings_unnamed : Request → Config
settings_unnamed (request.Bench seed) = record default_settings { tiles = 16 }
settings_unnamed _ = default_settings

-- the seed in place of the settings'
abbrev pub seed_of : Request → Option ℕ
seed_of (request.Run image config seed journal) = seed
seed_of (request.Replay image journal config seed) = seed
seed_of (request.Bench seed) = Some seed
seed_of _ = None

-- the file of the journal that is replayed
abbrev pub replayed_name : Request → Option (List ℕ)
replayed_name (request.Replay image journal config seed) = Some journal
replayed_name _ = None

-- the file that the run's journal is written to
abbrev pub journal_name : Request → Option (List ℕ)
journal_name (request.Run image config seed journal) = journal
journal_name _ = None

-- the kind and the seed of the workload that is made, where no image's file is read
abbrev pub workload_of : Request → Option (Kind × ℕ)
workload_of (request.Gen kind seed out) = Some (kind, seed)
workload_of (request.Bench seed) = Some (Reduce, seed)
workload_of _ = None

-- the file that the workload is written to, where it is only written
abbrev pub workload_name : Request → Option (List ℕ)
workload_name (request.Gen kind seed out) = Some out
workload_name _ = None

-- the names that the words give for writing, in the order in which the files are written
abbrev pub written_names : Request → List (List ℕ)
written_names (request.Run image config seed journal) = option_to_list journal
written_names (request.Gen kind seed out) = out ∷ []
written_names _ = []
