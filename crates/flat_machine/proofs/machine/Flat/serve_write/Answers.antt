-- The answer and the output are all that changes.
use Rattle.flat_machine.proofs.ServingLemmas.{write_made, write_shown}
use Rattle.flat_machine.proofs.machine.Flat.serve_write.Goals as goal

pub returns-clause-ok : goal.returns-clause-ok
returns-clause-ok c =
    rw (write_made c.args.self.now c.args.number c.args.bytes.now)
    (write_shown _ _ c.self.view_is c.args.number c.in_ok-value.value c.args.bytes.now c.write_output.new.output c.answer.new.self c.answer.ensures c.in_ok-value.ensures.value c.in_ok-value.ensures.ok)
