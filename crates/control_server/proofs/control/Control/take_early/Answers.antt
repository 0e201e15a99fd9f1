-- A call joins the backlog, or doesn't.
use Rattle.control_server.proofs.Ending.{call_done}
use Rattle.control_server.proofs.control.Control.take_early.Goals as goal

pub returns-in_ok-take_call-in-Call : goal.returns-in_ok-take_call-in-Call
returns-in_ok-take_call-in-Call c =
    rw c.in-Call.is (call_done c.args.self.now c.args.from c.in-Call.thread c.in-Call.time c.in-Call.call c.take_call.new.self c.args.out.now.items c.in_ok-take_call-in-Call.ensures)
