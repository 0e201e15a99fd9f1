-- Each thread was looked at.
use Rattle.std.proofs.Common.{◌≡◌, length, sym, ap, ◌∙◌, arith}
use Rattle.control_server.proofs.Parking.{all_parked, not_all_parked}
use Rattle.control_server.proofs.control.Control.are_all_parked.Goals as goal

pub returns-then-is_active : goal.returns-then-is_active
returns-then-is_active c =
    let count : c.next-thread-end.result ≡ length c.args.self.now.control.fates = c.next-thread-end.ensures ∙ ap (λ s. length s.control.fates) c.self.view_is in
    sym (not_all_parked c.args.self.now.control c.loop-thread.thread (omega (arith, count, c.loop-thread-test.true)) (sym c.is_active.ensures ∙ c.if-is_active.true))

pub returns : goal.returns
returns c =
    let count : c.next-thread-end.result ≡ length c.args.self.now.control.fates = c.next-thread-end.ensures ∙ ap (λ s. length s.control.fates) c.self.view_is in
    sym (all_parked c.args.self.now.control (λ k less. c.loop-thread.invariant k (omega (arith, count, less, c.loop-thread-test.false))))
