-- The program's exit is all that changes.
use Rattle.std.proofs.Common.{rules}
use Rattle.sim_base.specs.declared.ends.End.TheVariants.{Exit}
use Rattle.flat_machine.proofs.ServingLemmas.{end_made}
use Rattle.flat_machine.proofs.machine.Flat.serve_call.Goals as goal

pub returns-in-ExitGroup-clause-ok : goal.returns-in-ExitGroup-clause-ok
returns-in-ExitGroup-clause-ok c = rw (c.in-ExitGroup.is, end_made c.args.self.now c.args.number (Exit c.in-ExitGroup.code)) (search rules)
