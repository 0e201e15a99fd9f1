-- One more thread was woken.
use Rattle.std.proofs.Common.{get_or, take}
use Rattle.std.proofs.lemmas.List.{take_more}
use Rattle.control_server.proofs.Waking.{one_more_woken}
use Rattle.control_server.proofs.control.Control.wake_all.Goals as goal

pub loop-thread-preserved : goal.loop-thread-preserved
loop-thread-preserved c =
    rw (take_more c.args.threads.now c.loop-thread.thread-index 0 c.loop-thread-test.true)
    (one_more_woken c.args.self.now c.loop-thread.self c.wake.new.self c.args.time (get_or c.args.threads.now c.loop-thread.thread-index 0) c.args.out.now.items c.loop-thread.out.items c.wake.new.out.items
    (take c.loop-thread.thread-index c.args.threads.now) c.loop-thread.invariant c.in_ok-wake.ensures.control c.in_ok-wake.ensures.mail)
