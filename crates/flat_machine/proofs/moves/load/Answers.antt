-- The next byte is read, where one is left.
use Rattle.std.proofs.Common.{refl, sym, ap}
use Rattle.flat_machine.specs.declared.threads.Status.{Status}
use Rattle.flat_machine.proofs.MoveLemmas.{not_writing, all_read, next_read}
use Rattle.flat_machine.proofs.moves.load.Goals as goal

pub returns-in_default : goal.returns-in_default
returns-in_default c = (not_writing c.args.memory.now c.args.thread.now c.args.thread.now.status c.in_default.not-Writing, refl)

pub returns-then-read-len : goal.returns-then-read-len
returns-then-read-len c =
    let t = c.args.thread.now in
    let w = c.in-Writing in
    (all_read c.args.memory.now t t.status w.addr w.len c.len-read.result w.bytes w.is c.len-read.ensures c.if-read-len.true, ap (λ (s : Status). record t { status = s }) (sym w.is))

pub returns-in_ok-push-in-Writing : goal.returns-in_ok-push-in-Writing
returns-in_ok-push-in-Writing c =
    let t = c.args.thread.now in
    let w = c.in-Writing in
    next_read c.args.memory.now t t.status w.addr w.len c.len-read.result c.byte.result w.bytes c.push.new.self w.is c.len-read.ensures c.if-read-len.false c.byte.ensures c.in_ok-push-in-Writing.ensures.ok
