-- `run IMAGE [--config FILE] [--seed N] [--journal FILE]`
use Rattle.std.specs.Prelude.{[], ◌∷◌, Option, option_map, option_and_then, codes}
use Rattle.sim_config.specs.declared.request.Request.{Request}
use Rattle.sim_config.specs.declared.request.Request.TheVariants as request
use Rattle.sim_config.specs.Words.{CommandForm, Given, optional_number}

abbrev pub run_form : CommandForm
run_form = record {
  positionals = codes "image" ∷ [];
  options = codes "config" ∷ codes "seed" ∷ codes "journal" ∷ [];
  flags = [];
}

-- a run needs an image
abbrev pub run_of : Given → Option Request
run_of given =
    option_and_then (λ image. option_map (λ seed.
    request.Run image (given.value (codes "config")) seed (given.value (codes "journal")))
    (optional_number (given.value (codes "seed")))) (given.value (codes "image"))
