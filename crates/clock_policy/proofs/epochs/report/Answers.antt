use Rattle.std.proofs.Common.{arith}
use Rattle.std.proofs.lemmas.Grind.{common_steps}
use Rattle.std.proofs.lemmas.List.Edits.{map_over_more}
use Rattle.clock_policy.specs.Members.{with_report}
use Rattle.clock_policy.proofs.epochs.report.Goals as goal

pub loop-member-preserved : goal.loop-member-preserved
loop-member-preserved c = grind (arith, common_steps, map_over_more (with_report c.args.thread c.args.tile))
