use Rattle.std.proofs.Common.{◌≡◌, drop, is_some, true}
use Rattle.sim_config.specs.Words.{uses_in}
use Rattle.sim_config.specs.Inner.{first_use_of, lent_form, uses_at}
use Rattle.sim_config.proofs.rules.first_use.Given as goal

-- the words that are left keep the rules, and the first use in them is the first in all
abbrev pub invariant-loop-at : goal.invariant-loop-at
invariant-loop-at l = record {
  keep : is_some (uses_at (lent_form l.form) l.reading (drop l.at l.words)) ≡ true;
  first : first_use_of l.name (uses_at (lent_form l.form) l.reading (drop l.at l.words)) ≡ first_use_of l.name (uses_in (lent_form l.form) l.words);
}
