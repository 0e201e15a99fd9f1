use Rattle.std.proofs.Common.{◌≡◌, List, sym, subst, arith, min, length}
use Rattle.serving.specs.declared.control_data.Waiter.{Waiter}
use Rattle.futex_table.proofs.Waking.{HasWoken, waking_more, waking_all, waking_stopped, woken_all}
use Rattle.futex_table.proofs.futexes.Futexes.wake.Goals as goal
use Rattle.futex_table.proofs.futexes.Futexes.wake.Goals.{else-loop-test, then-loop-test+in-None}

pub loop-preserved : goal.loop-preserved
loop-preserved c = (
  rw c.in_ok-push-in-Some.ensures.items (waking_more c.args.addr c.min-most.result c.loop.counter c.in-Some.thread c.args.self.now c.loop.self c.wake_longest.new.self c.loop.threads.items c.loop.invariant.0 c.loop-test.true (sym c.in-Some.ensures.woken) c.in-Some.ensures.rest),
  omega (arith, c.in_ok-push-in-Some.ensures.len, c.loop.invariant.1),
  omega (arith, c.in_ok-push-in-Some.ensures.capacity, c.loop.invariant.2),
)

woken_so_far : (c : goal.Left-loop) → HasWoken c.args.addr c.min-most.result c.args.self.now c.loop-test.self c.loop.threads.items
woken_so_far c =
    let P : List Waiter → Type 0 = λ ws. HasWoken c.args.addr c.min-most.result c.args.self.now ws c.loop.threads.items in
    elim c.loop-test.branch [
      | else-loop-test w ↦ subst P (sym w.self-is) (waking_all c.args.addr c.min-most.result c.loop.counter c.args.self.now c.loop.self c.loop.threads.items c.loop.invariant.0 w.loop-test.false)
      | then-loop-test+in-None w ↦ subst P (sym w.self-is) (waking_stopped c.args.addr c.min-most.result c.loop.counter c.args.self.now c.loop.self w.wake_longest.new.self c.loop.threads.items c.loop.invariant.0 (sym w.in-None.ensures.woken) w.in-None.ensures.rest)
    ]

has_woken : (c : goal.Left-loop) → HasWoken c.args.addr c.args.count c.args.self.now c.loop-test.self c.loop.threads.items
has_woken c =
    let most : c.min-most.result ≡ min c.args.count (length c.args.self.now) = cc in
    woken_all c.args.addr c.args.count c.min-most.result c.args.self.now c.loop-test.self c.loop.threads.items most (woken_so_far c)

pub returns-clause-woken : goal.returns-clause-woken
returns-clause-woken c = (has_woken c).woken

pub returns-clause-ok : goal.returns-clause-ok
returns-clause-ok c = (has_woken c).still
