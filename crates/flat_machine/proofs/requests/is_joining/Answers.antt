-- The test of each thread is that of its fate.
use Rattle.std.proofs.Common.{◌∙◌, sym, rules, tests}
use Rattle.std.proofs.lemmas.Iterator.{YieldsList-from_slice}
use Rattle.std.proofs.lemmas.Iterator.Search.{any_from_yields_List}
use Rattle.serving.specs.ControlData.{is_joiner}
use Rattle.flat_machine.specs.declared.threads.Thread.{Thread}
use Rattle.flat_machine.specs.Serving.{fate_of}
use Rattle.flat_machine.proofs.ServingLemmas.{any_fate}
use Rattle.flat_machine.proofs.requests.is_joining.Goals as goal

pub returns : goal.returns
returns c =
    let found = any_from_yields_List (λ (t : Thread). is_joiner c.args.index (fate_of t)) _ _ c.any.result c.any.ensures.ran
    (YieldsList-from_slice c.args.threads.now cc) (λ x b q k. search (rules, tests)) in
    found ∙ sym (any_fate (is_joiner c.args.index) c.args.threads.now)
