-- One more option was added.
use Rattle.std.proofs.Common.{◌∙◌}
use Rattle.sim_config.specs.Inner.{option_rule}
use Rattle.sim_config.proofs.Arguments.{option_added, with_rules-more}
use Rattle.sim_config.proofs.matching.with_options.Goals as goal

pub loop-name-preserved : goal.loop-name-preserved
loop-name-preserved c =
    with_rules-more option_rule _ _ c.args.names.now c.loop-name.name-index _ c.loop-name-test.true
    (option_added _ _ _ _ _ c.long.ensures c.new.ensures.rule c.new.ensures.optional.1 c.in_ok-command.ensures.shape)
    ∙ c.loop-name.invariant
