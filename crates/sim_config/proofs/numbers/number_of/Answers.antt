-- What `parse` reads is the number of a numeral.
use Rattle.std.proofs.Common.{◌≡◌, ◌∙◌, true, rules}
use Rattle.sim_config.specs.Words.{is_numeral}
use Rattle.sim_config.proofs.Numerals.{number-read}
use Rattle.sim_config.proofs.numbers.number_of.Goals as goal

pub returns-then-is_numeral : goal.returns-then-is_numeral
returns-then-is_numeral c =
    let numeral : is_numeral c.args.word.now ≡ true = search rules in
    c.ok.ensures.value ∙ number-read c.args.word.now c.parse.result numeral c.parse.ensures.value.0
