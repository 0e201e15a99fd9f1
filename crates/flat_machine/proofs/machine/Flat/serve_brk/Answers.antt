-- The answer and the break are all that changes.
use Rattle.std.proofs.Common.{rules}
use Rattle.flat_machine.proofs.ServingLemmas.{brk_made}
use Rattle.flat_machine.proofs.machine.Flat.serve_brk.Goals as goal

pub returns : goal.returns
returns c = rw (brk_made c.args.world.now c.args.self.now c.args.number c.args.addr) (search rules)
