-- No region has such an address.
use Rattle.std.proofs.Common.{ap, sym, ◌∙◌}
use Rattle.flat_machine.specs.Memory.{byte_at}
use Rattle.flat_machine.proofs.LowLemmas.{nothing_past}
use Rattle.flat_machine.proofs.regions.Memory.nothing.Goals as goal

pub returns-clause-past : goal.returns-clause-past
returns-clause-past c = λ address past. ap (λ memory. byte_at memory address) (sym c.self.view_is) ∙ nothing_past c.self.inside.regions.items address c.self.invariant past
