-- `gen KIND SEED OUT`, of the kind `lock`, `barrier`, `pipeline` or `reduce`
use Rattle.std.specs.Prelude.{ℕ, List, [], ◌∷◌, Option, Some, None, if◌then◌else◌, option_map, option_and_then, codes}
use Rattle.std.specs.Str.{bytes_eq}
use Rattle.sim_base.specs.declared.kinds.Kind.{Kind}
use Rattle.sim_base.specs.declared.kinds.Kind.TheVariants.{Lock, Barrier, Pipeline, Reduce}
use Rattle.sim_config.specs.declared.request.Request.{Request}
use Rattle.sim_config.specs.declared.request.Request.TheVariants as request
use Rattle.sim_config.specs.Words.{CommandForm, Given, word_number}

abbrev pub gen_form : CommandForm
gen_form = record { positionals = codes "kind" ∷ codes "seed" ∷ codes "out" ∷ []; options = []; flags = [] }

-- the kind of workload of a name
abbrev pub kind_of : List ℕ → Option Kind
kind_of word =
    if bytes_eq word (codes "lock") then Some Lock
    else (if bytes_eq word (codes "barrier") then Some Barrier
    else (if bytes_eq word (codes "pipeline") then Some Pipeline
    else (if bytes_eq word (codes "reduce") then Some Reduce else None)))

-- a workload needs its kind, its seed, and the file to write
abbrev pub gen_of : Given → Option Request
gen_of given =
    option_and_then (λ kind. option_and_then (λ seed. option_map (λ out.
    request.Gen kind seed out)
    (given.value (codes "out"))) (option_and_then word_number (given.value (codes "seed")))) (option_and_then kind_of (given.value (codes "kind")))
