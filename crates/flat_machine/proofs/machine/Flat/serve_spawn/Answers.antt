-- Each of the three ways in which a spawn goes.
use Rattle.std.proofs.Common.{rules, ◌≡◌, ◌%◌, ◌==◌, false, true, map, arith}
use Rattle.std.proofs.lemmas.Bool.Decides.{nat_tests}
use Rattle.serving.specs.Serving.{is_full}
use Rattle.flat_machine.specs.Serving.{fate_of}
use Rattle.flat_machine.proofs.ServingLemmas.{spawn_misaligned, spawn_refused, spawn_made}
use Rattle.flat_machine.proofs.machine.Flat.serve_spawn.Goals as goal

pub returns-then-entry-ne0-clause-ok : goal.returns-then-entry-ne0-clause-ok
returns-then-entry-ne0-clause-ok c =
    let e : (c.args.entry % 4 == 0) ≡ false = grind (arith, nat_tests) in
    rw (spawn_misaligned c.args.world.now c.args.self.now c.args.number c.args.entry c.args.arg e) (search rules)

pub returns-then-is_full-clause-ok : goal.returns-then-is_full-clause-ok
returns-then-is_full-clause-ok c =
    let e : (c.args.entry % 4 == 0) ≡ true = grind (arith, nat_tests) in
    let full : is_full c.args.world.now (map fate_of c.args.self.now.threads) ≡ true = search rules in
    rw (spawn_refused c.args.world.now c.args.self.now c.args.number c.args.entry c.args.arg e full) (search rules)

pub returns-in_ok-push-clause-ok : goal.returns-in_ok-push-clause-ok
returns-in_ok-push-clause-ok c =
    let e : (c.args.entry % 4 == 0) ≡ true = grind (arith, nat_tests) in
    let room : is_full c.args.world.now (map fate_of c.args.self.now.threads) ≡ false = search rules in
    rw (spawn_made c.args.world.now c.args.self.now c.args.number c.args.entry c.args.arg e room) (search rules)
