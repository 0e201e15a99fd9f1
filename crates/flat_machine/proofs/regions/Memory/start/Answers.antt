-- The start regions make the start memory.
use Rattle.std.proofs.Common.{ap, sym, subst, ◌∙◌}
use Rattle.flat_machine.specs.Inner.{memory_of, AreLow}
use Rattle.flat_machine.proofs.StartLemmas.{start_memory_of}
use Rattle.flat_machine.proofs.LowLemmas.{start_low}
use Rattle.flat_machine.proofs.regions.Memory.start.Goals as goal

pub invariant_of-result : goal.invariant_of-result
invariant_of-result c =
    let at = c.in_ok-regions.ensures in
    subst AreLow (sym at.regions) (start_low c.args.world.now at.program at.checked at.low)

pub returns : goal.returns
returns c = ap memory_of c.in_ok-regions.ensures.regions ∙ start_memory_of c.args.world.now c.in_ok-regions.ensures.program
