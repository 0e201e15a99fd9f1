-- The program's trap is all that changes.
use Rattle.std.proofs.Common.{rules}
use Rattle.sim_base.specs.declared.ends.End.TheVariants.{Trap}
use Rattle.flat_machine.proofs.ServingLemmas.{end_made}
use Rattle.flat_machine.proofs.machine.Flat.serve_request.Goals as goal

pub returns-in-Trap-clause-ok : goal.returns-in-Trap-clause-ok
returns-in-Trap-clause-ok c =
    rw (c.in-Trap.is, end_made c.args.self.now c.args.number (Trap c.args.number c.in-Trap.cause c.in-Trap.pc)) (search rules)
