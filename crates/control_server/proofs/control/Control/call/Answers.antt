-- What a call was answered holds in this world.
use Rattle.wire_msg.specs.declared.calls.Call.TheVariants.{Join as JoinCall, Write, FutexWake}
use Rattle.serving.specs.declared.control_data.Request.TheVariants.{Call}
use Rattle.control_server.specs.Serve.{serves}
use Rattle.control_server.specs.Inner.{asked, IsMade}
use Rattle.control_server.proofs.Outcome.{at_world}
use Rattle.control_server.proofs.control.Control.call.Goals as goal

pub returns-in-Join : goal.returns-in-Join
returns-in-Join c =
    rw c.in-Join.is (at_world c.args.world.now (λ w. IsMade (serves w c.args.self.now (asked c.args.asker (Call (JoinCall c.in-Join.thread))) c.args.word) c.join.new.self c.args.out.now.items c.join.new.out.items) c.join.result c.join.ensures)

pub returns-in-Write : goal.returns-in-Write
returns-in-Write c =
    rw c.in-Write.is (at_world c.args.world.now (λ w. IsMade (serves w c.args.self.now (asked c.args.asker (Call (Write c.in-Write.bytes))) c.args.word) c.write.new.self c.args.out.now.items c.write.new.out.items) c.write.result c.write.ensures)

pub returns-in-FutexWake : goal.returns-in-FutexWake
returns-in-FutexWake c =
    rw c.in-FutexWake.is (at_world c.args.world.now (λ w. IsMade (serves w c.args.self.now (asked c.args.asker (Call (FutexWake c.in-FutexWake.addr c.in-FutexWake.count))) c.args.word) c.wake_longest.new.self c.args.out.now.items c.wake_longest.new.out.items)
    c.wake_longest.result c.wake_longest.ensures)
