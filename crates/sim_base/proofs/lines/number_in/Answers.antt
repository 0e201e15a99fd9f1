-- Each byte is below 256, so the number is below a power of it.
use Rattle.byteorder.specs.Numbers.{little_from-lt}
use Rattle.byteorder.proofs.Bytes.{pow256}
use Rattle.sim_base.proofs.lines.number_in.Goals as goal

pub returns-in_default-clause-small : goal.returns-in_default-clause-small
returns-in_default-clause-small c = rw (c.read_uint.ensures, ← pow256 c.args.size) (little_from-lt 0 c.args.size c.args.bytes.now (λ k. (c.type_inv.bytes k).fits))
