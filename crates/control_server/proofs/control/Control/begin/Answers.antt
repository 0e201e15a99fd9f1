-- The thread is born on the host whose tile was taken.
use Rattle.std.proofs.Common.{[], ◌∷◌, ◌++◌, None, ap, ◌∙◌, arith}
use Rattle.sim_base.specs.Numbering.{local_node}
use Rattle.sim_base.proofs.CheckedSettings.{hosts_exist}
use Rattle.serving.specs.declared.control_data.Fate.TheVariants.{Live}
use Rattle.serving.specs.ControlData.{next_number}
use Rattle.control_server.specs.Control.{Control}
use Rattle.control_server.specs.Serve.{joined_by}
use Rattle.control_server.proofs.Served.{birth_made}
use Rattle.control_server.proofs.control.Control.begin.Goals as goal

pub take_tile-host-requires : goal.take_tile-host-requires
take_tile-host-requires c = omega (arith, hosts_exist c.args.world.now.config c.config-config.ensures.checked, c.requires.can.hosts)

pub returns : goal.returns
returns c =
    let at = c.self.view_is in
    let with : Control → Control = λ s. record s { control = record s.control { fates = c.add.new.self }; callers = c.push.new.self.items; epochs = c.join.new.self } in
    birth_made c.args.world.now c.args.self.now c.take_tile-host.new.self c.args.asker c.args.entry c.args.arg c.in_ok-thread.thread c.local-to.result c.take_tile-host.result c.limit-limit.result
    c.add.new.self c.push.new.self.items c.join.new.self _ c.args.out.now.items c.push-2.new.self.items c.answer.new.out.items
    c.take_tile-host.ensures.free (c.in_ok-thread.ensures.number ∙ ap (λ s. next_number s.control.fates) at) (c.in_ok-thread.ensures.ok ∙ ap (λ s. s.control.fates ++ Live None ∷ []) at)
    (c.in_ok-push.ensures.items ∙ ap (λ s. s.callers ++ 0 ∷ []) at) (c.in_ok-join.ensures.ok ∙ ap (λ s. joined_by c.in_ok-thread.thread s.epochs) at) c.take_tile-host.ensures.host
    (c.local-to.ensures ∙ ap (λ s. local_node s c.take_tile-host.result) c.config-config.ensures.value) c.limit-limit.ensures c.in_ok-push-2.ensures.items (ap with at) c.in_ok-answer.ensures
