-- One more positional was added.
use Rattle.std.proofs.Common.{ap, ◌∙◌}
use Rattle.clap.specs.Words.{app_of, new_rule}
use Rattle.clap.specs.Simple.{with_rule}
use Rattle.sim_config.proofs.Arguments.{with_rules-more}
use Rattle.sim_config.proofs.matching.with_positionals.Goals as goal

pub loop-name-preserved : goal.loop-name-preserved
loop-name-preserved c =
    with_rules-more new_rule _ _ c.args.names.now c.loop-name.name-index _ c.loop-name-test.true
    (c.in_ok-command.ensures.shape c.new.ensures.optional.1 ∙ ap (with_rule (app_of c.loop-name.command)) c.new.ensures.rule)
    ∙ c.loop-name.invariant
