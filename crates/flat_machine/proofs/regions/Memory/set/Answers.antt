-- The written regions make the written memory.
use Rattle.std.proofs.Common.{ap, sym, subst, ◌∙◌}
use Rattle.flat_machine.specs.Memory.{with_byte}
use Rattle.flat_machine.specs.Inner.{memory_of, AreLow}
use Rattle.flat_machine.proofs.WriteLemmas.{written-memory}
use Rattle.flat_machine.proofs.LowLemmas.{low-with_byte_in}
use Rattle.flat_machine.proofs.regions.Memory.set.Goals as goal

pub invariant_of-self : goal.invariant_of-self
invariant_of-self c = subst AreLow (sym c.set_in.ensures) (low-with_byte_in c.self.inside.regions.items c.args.address c.args.byte c.self.invariant)

pub returns : goal.returns
returns c =
    ap memory_of c.set_in.ensures ∙ written-memory c.self.inside.regions.items c.args.address c.args.byte
    ∙ ap (λ memory. with_byte memory c.args.address c.args.byte) c.self.view_is
