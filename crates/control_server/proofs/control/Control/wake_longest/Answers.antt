-- The woken threads go on, and the caller is answered how many they are.
use Rattle.std.proofs.Common.{[], ◌∷◌, ◌++◌, ap, sym, ◌∙◌}
use Rattle.serving.specs.Wake.{woken, still_parked}
use Rattle.clock_policy.specs.Epoch.{limit_of}
use Rattle.control_server.specs.Control.{Control}
use Rattle.control_server.specs.Serve.{return_to}
use Rattle.control_server.proofs.Served.{wake_made}
use Rattle.control_server.proofs.control.Control.wake_longest.Goals as goal

pub returns : goal.returns
returns c = λ w.
    let at = c.self.view_is in
    let with : Control → Control = λ s. record s { control = record s.control { waiters = c.wake.new.self } } in
    wake_made w c.args.self.now c.args.asker c.args.addr c.args.count c.as_slice.result.now c.wake.new.self _ c.wake_all.new.self c.args.out.now.items c.wake_all.new.out.items c.answer.new.out.items
    c.requires (c.as_slice.ensures.value ∙ c.in_ok-threads.ensures.woken ∙ ap (λ s. woken c.args.addr c.args.count s.control.waiters) at)
    (c.in_ok-threads.ensures.ok ∙ ap (λ s. still_parked c.args.addr c.args.count s.control.waiters) at) (ap with at) c.in_ok-wake_all.ensures.control c.in_ok-wake_all.ensures.mail
    (c.in_ok-answer.ensures ∙ ap (λ n. c.wake_all.new.out.items ++ return_to c.args.asker.from n 0 (limit_of c.wake_all.new.self.epochs) ∷ []) (c.len.ensures ∙ sym c.as_slice.ensures.len))
