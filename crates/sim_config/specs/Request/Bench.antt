-- `bench SEED`
use Rattle.std.specs.Prelude.{[], ◌∷◌, Option, option_map, option_and_then, codes}
use Rattle.sim_config.specs.declared.request.Request.{Request}
use Rattle.sim_config.specs.declared.request.Request.TheVariants as request
use Rattle.sim_config.specs.Words.{CommandForm, Given, word_number}

abbrev pub bench_form : CommandForm
bench_form = record { positionals = codes "seed" ∷ []; options = []; flags = [] }

-- a benchmark needs its seed
abbrev pub bench_of : Given → Option Request
bench_of given = option_map (λ seed. request.Bench seed) (option_and_then word_number (given.value (codes "seed")))
