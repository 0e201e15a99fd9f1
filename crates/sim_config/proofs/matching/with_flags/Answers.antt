-- One more flag was added.
use Rattle.std.proofs.Common.{◌∙◌}
use Rattle.sim_config.specs.Inner.{flag_rule}
use Rattle.sim_config.proofs.Arguments.{flag_added, with_rules-more}
use Rattle.sim_config.proofs.matching.with_flags.Goals as goal

pub loop-name-preserved : goal.loop-name-preserved
loop-name-preserved c =
    with_rules-more flag_rule _ _ c.args.names.now c.loop-name.name-index _ c.loop-name-test.true
    (flag_added _ _ _ _ _ _ c.long.ensures c.action.ensures c.new.ensures.rule c.new.ensures.optional.1 c.in_ok-command.ensures.shape)
    ∙ c.loop-name.invariant
