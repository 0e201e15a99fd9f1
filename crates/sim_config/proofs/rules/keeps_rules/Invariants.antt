use Rattle.std.proofs.Common.{◌≡◌, drop, is_some}
use Rattle.sim_config.specs.Words.{uses_in}
use Rattle.sim_config.specs.Inner.{lent_form, uses_at}
use Rattle.sim_config.proofs.rules.keeps_rules.Given as goal

-- the words that are left keep the rules where all do
abbrev pub invariant-loop-at : goal.invariant-loop-at
invariant-loop-at l = is_some (uses_at (lent_form l.form) l.reading (drop l.at l.words)) ≡ is_some (uses_in (lent_form l.form) l.words)
