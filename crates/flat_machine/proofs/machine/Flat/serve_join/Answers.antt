-- Each of the four ways in which a join goes.
use Rattle.std.proofs.Common.{rules, ◌≡◌, map}
use Rattle.serving.specs.declared.control_data.Join.TheVariants.{Code, Parked, NoThread, Invalid}
use Rattle.serving.specs.Join.{join_of}
use Rattle.flat_machine.specs.Serving.{fate_of}
use Rattle.flat_machine.proofs.ServingLemmas.{join_code, join_parked, join_refused, join_invalid}
use Rattle.flat_machine.proofs.machine.Flat.serve_join.Goals as goal

pub returns-in-Code : goal.returns-in-Code
returns-in-Code c =
    let e : join_of (map fate_of c.args.self.now.threads) c.args.number c.args.target ≡ Code c.in-Code.code = search rules in
    rw (join_code c.args.self.now c.args.number c.args.target c.in-Code.code e) (search rules)

pub returns-in-Parked : goal.returns-in-Parked
returns-in-Parked c =
    let e : join_of (map fate_of c.args.self.now.threads) c.args.number c.args.target ≡ Parked = search rules in
    rw (join_parked c.args.self.now c.args.number c.args.target e) (search rules)

pub returns-in-NoThread : goal.returns-in-NoThread
returns-in-NoThread c =
    let e : join_of (map fate_of c.args.self.now.threads) c.args.number c.args.target ≡ NoThread = search rules in
    rw (join_refused c.args.self.now c.args.number c.args.target e) (search rules)

pub returns-in-Invalid : goal.returns-in-Invalid
returns-in-Invalid c =
    let e : join_of (map fate_of c.args.self.now.threads) c.args.number c.args.target ≡ Invalid = search rules in
    rw (join_invalid c.args.self.now c.args.number c.args.target e) (search rules)
