use Rattle.std.proofs.Common.{◌≡◌, ap, ◌∙◌, Some, None}
use Rattle.serving.specs.Wake.{longest_at, without_thread}
use Rattle.futex_table.specs.Entries.{waiters_of}
use Rattle.futex_table.proofs.Orderly.{orderly_woken, waiters_of-woken}
use Rattle.futex_table.proofs.futexes.Futexes.wake_longest.Goals as goal

pub returns-in_err-thread-clause-woken : goal.returns-in_err-thread-clause-woken
returns-in_err-thread-clause-woken c =
    c.from_residual.ensures ∙ c.in_err-thread.ensures ∙ ap (longest_at c.args.addr) c.self.view_is

pub returns-in_err-thread-clause-rest : goal.returns-in_err-thread-clause-rest
returns-in_err-thread-clause-rest c =
    let none : None ≡ longest_at c.args.addr c.args.self.now = c.in_err-thread.ensures ∙ ap (longest_at c.args.addr) c.self.view_is in
    ap (λ o. without_thread o c.args.self.now) none

pub invariant_of-self : goal.invariant_of-self
invariant_of-self c =
    orderly_woken c.in_ok-thread.thread c.self.inside.addresses.entries c.shift_remove.new.self.entries c.self.invariant c.shift_remove.ensures.entries c.shift_remove.ensures.unique

pub returns-clause-woken : goal.returns-clause-woken
returns-clause-woken c = c.in_ok-thread.ensures ∙ ap (longest_at c.args.addr) c.self.view_is

pub returns-clause-rest : goal.returns-clause-rest
returns-clause-rest c =
    let found : Some c.in_ok-thread.thread ≡ longest_at c.args.addr c.args.self.now = c.in_ok-thread.ensures ∙ ap (longest_at c.args.addr) c.self.view_is in
    ap waiters_of c.shift_remove.ensures.entries ∙ waiters_of-woken c.in_ok-thread.thread c.self.inside.addresses.entries c.self.invariant.distinct
    ∙ ap (without_thread (Some c.in_ok-thread.thread)) c.self.view_is ∙ ap (λ o. without_thread o c.args.self.now) found
