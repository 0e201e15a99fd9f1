use Rattle.std.proofs.Common.{not, ◌==◌, rules, tests}
use Rattle.std.proofs.lemmas.Fn.{filter_same}
use Rattle.flat_machine.proofs.requests.remove.Goals as goal

pub returns : goal.returns
returns c = filter_same _ (λ w. not (w.thread == c.args.thread)) _ (λ x b f' k. search (rules, tests)) _ _ c.retain.ensures.filtered
