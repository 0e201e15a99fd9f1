use Rattle.std.proofs.Common.{◌≡◌, drop, map}
use Rattle.clap.specs.Words.{app_of}
use Rattle.sim_config.specs.Inner.{names_of, with_rules, flag_rule}
use Rattle.sim_config.proofs.matching.with_flags.Given as goal

-- with those that are left, the command has all
abbrev pub invariant-loop-name : goal.invariant-loop-name
invariant-loop-name l =
    with_rules (app_of l.command) (map flag_rule (names_of (drop l.name-index l.names))) ≡ with_rules (app_of l.fn.command) (map flag_rule (names_of l.names))
