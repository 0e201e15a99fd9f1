-- `replay IMAGE JOURNAL [--config FILE] [--seed N]`
use Rattle.std.specs.Prelude.{[], ◌∷◌, Option, option_map, option_and_then, codes}
use Rattle.sim_config.specs.declared.request.Request.{Request}
use Rattle.sim_config.specs.declared.request.Request.TheVariants as request
use Rattle.sim_config.specs.Words.{CommandForm, Given, optional_number}

abbrev pub replay_form : CommandForm
replay_form = record {
  positionals = codes "image" ∷ codes "journal" ∷ [];
  options = codes "config" ∷ codes "seed" ∷ [];
  flags = [];
}

-- a replay needs an image and a journal
abbrev pub replay_of : Given → Option Request
replay_of given =
    option_and_then (λ image. option_and_then (λ journal. option_map (λ seed.
    request.Replay image journal (given.value (codes "config")) seed)
    (optional_number (given.value (codes "seed")))) (given.value (codes "journal"))) (given.value (codes "image"))
