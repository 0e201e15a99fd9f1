-- The words keep the rules, so clap takes them, and finds what they give.
use Rattle.std.proofs.Common.{◌≡◌, ap, ap₂, ◌∙◌, rules}
use Rattle.std.proofs.lemmas.List.{map-id}
use Rattle.std.proofs.lemmas.Result.{IfErr-weaker, IfOk-weaker}
use Rattle.clap.specs.Matches.{found_of}
use Rattle.clap.specs.Simple.{app_of, is_simple, matches_of}
use Rattle.clap.specs.Takes.{takes}
use Rattle.clap.specs.Walk.{first_of}
use Rattle.clap.proofs.WalkLemmas.{first_value-rows}
use Rattle.sim_config.specs.Words.{uses_in}
use Rattle.sim_config.specs.Inner.{app_of_form, lent_form}
use Rattle.sim_config.proofs.Requests.{some_uses}
use Rattle.sim_config.proofs.Taken.{found_given, taken}
use Rattle.sim_config.proofs.matching.matches_of.Goals as goal

pub returns-clause-given : goal.returns-clause-given
returns-clause-given c =
    let form = lent_form c.args.form.now in
    let words = c.args.words.now in
    let app : app_of c.in_ok-command.command ≡ app_of_form form = search rules in
    let some = some_uses (uses_in form words) c.requires.rules in
    let parse = c.try_get_matches_from in
    IfOk-weaker parse.result _ _ (λ m h.
    found_given form words some.0 c.requires.form some.1 m (λ name.
    first_value-rows (found_of m) name
    ∙ ap (first_of name) ((h (ap is_simple app ∙ c.requires.form.simple)).0 ∙ ap₂ matches_of app (map-id words)))) parse.ensures.matches

pub returns-clause-memory : goal.returns-clause-memory
returns-clause-memory c =
    let form = lent_form c.args.form.now in
    let words = c.args.words.now in
    let app : app_of c.in_ok-command.command ≡ app_of_form form = search rules in
    let some = some_uses (uses_in form words) c.requires.rules in
    let parse = c.try_get_matches_from in
    IfErr-weaker parse.result _ _ (λ e h. h (ap₂ takes app (map-id words) ∙ taken form words some.0 c.requires.form some.1)) parse.ensures.passes
