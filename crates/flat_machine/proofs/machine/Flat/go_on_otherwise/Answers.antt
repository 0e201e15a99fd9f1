-- The action that is made is never refused.
use Rattle.std.proofs.Common.{◌≡◌, sym}
use Rattle.std.specs.Prelude.{Some}
use Rattle.flat_machine.specs.Run.{legal_action}
use Rattle.flat_machine.proofs.LegalLemmas.{not_refused}
use Rattle.flat_machine.proofs.machine.Flat.go_on_otherwise.Goals as goal

pub unreachable-requires : goal.unreachable-requires
unreachable-requires c =
    let made : legal_action c.args.world.now c.args.self.now ≡ Some c.in-Some.action = sym c.in-Some.ensures in
    let refused = rw c.in-Err-NotLegal.field-0-is at c.in-Err-NotLegal.ensures in
    not_refused c.args.world.now c.args.self.now c.in-Some.action made refused.0
