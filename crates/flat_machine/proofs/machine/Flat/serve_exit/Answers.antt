-- The thread is gone, and who was parked joining it, if anybody, is woken.
use Rattle.std.proofs.Common.{rules, ◌≡◌, map}
use Rattle.std.specs.Prelude.{Some, None}
use Rattle.serving.specs.Join.{joiner_of}
use Rattle.flat_machine.specs.Serving.{fate_of}
use Rattle.flat_machine.proofs.ServingLemmas.{exit_made}
use Rattle.flat_machine.proofs.machine.Flat.serve_exit.Goals as goal

pub returns-in-Some : goal.returns-in-Some
returns-in-Some c =
    let e : Some c.in-Some.joiner ≡ joiner_of (map fate_of c.args.self.now.threads) c.args.number = search rules in
    rw (exit_made c.args.self.now c.args.number c.args.code (Some c.in-Some.joiner) e) (search rules)

pub returns-in_default : goal.returns-in_default
returns-in_default c =
    let e : None ≡ joiner_of (map fate_of c.args.self.now.threads) c.args.number = search rules in
    rw (exit_made c.args.self.now c.args.number c.args.code None e) (search rules)
