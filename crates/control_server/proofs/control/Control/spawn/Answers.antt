-- There is room, and the thread is born.
use Rattle.std.proofs.Common.{sym}
use Rattle.control_server.proofs.Outcome.{if_done}
use Rattle.control_server.proofs.Served.{spawn_made}
use Rattle.control_server.proofs.control.Control.spawn.Goals as goal

pub returns : goal.returns
returns c =
    if_done c.begin.result _ _ c.begin.ensures (λ born. spawn_made c.args.world.now c.args.self.now c.args.asker c.args.entry c.args.arg c.begin.new.self c.args.out.now.items c.begin.new.out.items
    c.requires.active c.if-entry-ne0.false (sym c.if-is_full.ensures.full) born)
