use Rattle.std.proofs.Common.{not, eqb, rules, tests}
use Rattle.std.proofs.lemmas.Fn.{filter_same}
use Rattle.clock_policy.specs.declared.members.Member.{Member}
use Rattle.clock_policy.proofs.epochs.remove.Goals as goal

pub returns : goal.returns
returns c =
    filter_same _ (λ (m : Member). not (eqb m.thread c.args.thread)) _ (λ x b f k. search (rules, tests)) c.args.members.now.items c.retain.new.self.items c.retain.ensures.filtered
