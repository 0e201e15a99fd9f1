use Rattle.std.proofs.Common.{take}
use Rattle.control_server.proofs.Waking.{HasWoken}
use Rattle.control_server.proofs.control.Control.wake_all.Given as goal

abbrev pub invariant-loop-thread : goal.invariant-loop-thread
invariant-loop-thread l = HasWoken l.initial.self l.self l.time l.initial.out.items l.out.items (take l.thread-index l.threads)
