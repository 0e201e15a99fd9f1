-- A turn wakes the longest parked one, and where there is none the rest of the wakes does nothing.
use Rattle.std.proofs.Common.{◌≡◌, ◌-◌, rules, arith, sym, ◌∙◌}
use Rattle.std.specs.Prelude.{None, Some}
use Rattle.serving.specs.Wake.{longest_at}
use Rattle.flat_machine.proofs.WakeLemmas.{none_woken, none_leaves, one_woken, one_leaves, all_woken, all_left}
use Rattle.flat_machine.proofs.requests.wake.Goals as goal

pub returns-in_default-clause-threads : goal.returns-in_default-clause-threads
returns-in_default-clause-threads c =
    let none : longest_at c.args.addr c.loop-done.waiters.items ≡ None = search rules in
    rw (none_woken c.args.addr (c.args.count - c.loop-done.done) c.loop-done.waiters.items none) at c.loop-done.invariant.threads

pub returns-in_default-clause-waiters : goal.returns-in_default-clause-waiters
returns-in_default-clause-waiters c =
    let none : longest_at c.args.addr c.loop-done.waiters.items ≡ None = search rules in
    rw (none_leaves c.args.addr (c.args.count - c.loop-done.done) c.loop-done.waiters.items none) at c.loop-done.invariant.waiters

pub returns-in_default-clause-count : goal.returns-in_default-clause-count
returns-in_default-clause-count c =
    let none : longest_at c.args.addr c.loop-done.waiters.items ≡ None = search rules in
    let no_more = none_woken c.args.addr (c.args.count - c.loop-done.done) c.loop-done.waiters.items none in
    let counted = rw no_more at c.loop-done.invariant.count in
    omega (arith, counted)

pub loop-done-preserved : goal.loop-done-preserved
loop-done-preserved c =
    let first : longest_at c.args.addr c.loop-done.waiters.items ≡ Some c.in-Some.thread = search rules in
    let next = one_woken c.args.addr c.args.count c.loop-done.done c.in-Some.thread c.loop-done.waiters.items c.remove.new.waiters.items (omega arith) first c.remove.ensures in
    let rest = one_leaves c.args.addr c.args.count c.loop-done.done c.in-Some.thread c.loop-done.waiters.items c.remove.new.waiters.items (omega arith) first c.remove.ensures in
    let threads = rw next at c.loop-done.invariant.threads in
    let counted = rw next at c.loop-done.invariant.count in
    record {
      threads = rw c.set_status.ensures threads;
      waiters = sym rest ∙ c.loop-done.invariant.waiters;
      count = omega (arith, counted);
    }

pub returns-clause-threads : goal.returns-clause-threads
returns-clause-threads c = rw (all_woken c.args.addr (c.args.count - c.loop-done.done) c.loop-done.waiters.items (omega arith)) at c.loop-done.invariant.threads

pub returns-clause-waiters : goal.returns-clause-waiters
returns-clause-waiters c = rw (all_left c.args.addr (c.args.count - c.loop-done.done) c.loop-done.waiters.items (omega arith)) at c.loop-done.invariant.waiters

pub returns-clause-count : goal.returns-clause-count
returns-clause-count c =
    let no_more = all_woken c.args.addr (c.args.count - c.loop-done.done) c.loop-done.waiters.items (omega arith) in
    let counted = rw no_more at c.loop-done.invariant.count in
    omega (arith, counted)
