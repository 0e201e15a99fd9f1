-- What a request reads or makes: the settings, the image, the journal that is replayed. This simulator's own.
use Rattle.std.specs.Prelude.{◌≡◌, ℕ, List, Option, Some, None, Result}
use Rattle.sim_base.specs.declared.kinds.Kind.{Kind}
use Rattle.sim_base.specs.declared.settings.Config.{Config}
use Rattle.elf_image.specs.Image.{Program, image_of}
use Rattle.elf_image.specs.Layout.{Setup}
use Rattle.event_journal.specs.declared.events.Event.{Event}
use Rattle.journal_file.specs.declared.refusal.JournalRefusal.{JournalRefusal}
use Rattle.journal_file.specs.declared.refusal.JournalRefusal.TheVariants.{TooLong as FileTooLong, Byte as FileByte, NoMemory as FileNoMemory}
use Rattle.journal_file.specs.Reading.{reading}
use Rattle.sim_config.specs.declared.request.Request.{Request}
use Rattle.sim_config.specs.Request.{image_name, config_name, settings_unnamed, seed_of, replayed_name, workload_of}
use Rattle.sim_config.specs.SettingsFile.{settings as settings_in}
use Rattle.workload_gen.specs.Workload.{IsWorkload}
use Rattle.sim_top.specs.declared.outcomes.JournalFault.TheVariants.{TooLong, Byte}
use Rattle.sim_top.specs.declared.outcomes.Outcome.{Outcome}
use Rattle.sim_top.specs.declared.outcomes.Outcome.TheVariants.{BadConfig, BadImage, BadJournal, NoMemory}
use Rattle.sim_top.specs.Stage.{Stage, made, given, in_file, in_file_or, and_then, refused}

-- what the bytes of a file say, or the outcome of their refusal
abbrev pub settings_said : List ℕ → Result Config Outcome
settings_said file = refused BadConfig (settings_in file)

abbrev pub image_said : List ℕ → Result Program Outcome
image_said file = refused BadImage (image_of file)

abbrev pub journal_refusal : JournalRefusal → Outcome
journal_refusal FileTooLong = BadJournal TooLong
journal_refusal (FileByte at) = BadJournal (Byte at)
journal_refusal FileNoMemory = NoMemory

abbrev pub journal_said : List ℕ → Result (List Event) Outcome
journal_said file = refused journal_refusal (reading file)

-- a given seed takes the place of the settings'
abbrev pub with_seed : Option ℕ → Config → Config
with_seed None config = config
with_seed (Some seed) config = record config { seed = seed }

-- the settings of a request: those of its file, or what stands for them, with its seed
unfoldable pub settings : Request → Stage Config
settings request =
    and_then (in_file_or (config_name request) settings_said (given (settings_unnamed request)))
    (λ config. given (with_seed (seed_of request) config))

-- the workload of a kind and a seed, where one is made
abbrev pub workload : Option (Kind × ℕ) → Stage Program
workload None = made (λ program. ⊥) (λ outcome. ⊥)
workload (Some (kind, seed)) = made (IsWorkload kind seed) (λ outcome. ⊥)

-- the image of a request: that of its file, or a workload
unfoldable pub image : Request → Stage Program
image request = in_file_or (image_name request) image_said (workload (workload_of request))

-- the machine of a request: its image under its settings
unfoldable pub machine : Request → Stage Setup
machine request =
    and_then (settings request) (λ config.
    and_then (image request) (λ program. given (record { config = config; image = program })))

-- the events of the journal's file that a request replays
unfoldable pub replayed : Request → Stage (List Event)
replayed request = in_file_or (replayed_name request) journal_said (made (λ events. ⊥) (λ outcome. ⊥))
