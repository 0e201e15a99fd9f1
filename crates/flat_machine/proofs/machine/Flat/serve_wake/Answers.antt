-- Those that are woken, those that are parked still, and the answer are all that changes.
use Rattle.std.proofs.Common.{rules}
use Rattle.flat_machine.proofs.ServingLemmas.{wake_made}
use Rattle.flat_machine.proofs.machine.Flat.serve_wake.Goals as goal

pub returns : goal.returns
returns c = rw (wake_made c.args.self.now c.args.number c.args.addr c.args.count) (search rules)
