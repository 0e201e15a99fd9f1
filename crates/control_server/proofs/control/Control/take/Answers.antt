-- A message after the end is acknowledged, or changes nothing.
use Rattle.std.proofs.Common.{◌≡◌, true, is_some, sym, ap, ◌∙◌}
use Rattle.sim_base.specs.Numbering.{control_node}
use Rattle.wire_msg.specs.Message.{may_send}
use Rattle.control_server.proofs.Ending.{late_done}
use Rattle.control_server.proofs.control.Control.take.Goals as goal

pub returns-then-is_some : goal.returns-then-is_some
returns-then-is_some c =
    let ended : is_some c.args.self.now.control.ended ≡ true = ap (λ s. is_some s.control.ended) (sym c.self.view_is) ∙ sym c.is_some.ensures ∙ c.if-is_some.true in
    late_done c.args.world.now c.args.self.now c.args.from c.args.msg c.args.out.now.items c.take_late.new.out.items
    (ap (λ s. may_send s c.args.from (control_node s) c.args.msg) (sym c.config-config.ensures.value)
    ∙ ap (λ n. may_send c.config-config.result.now c.args.from n c.args.msg) (sym c.control.ensures) ∙ sym c.may_go.ensures ∙ c.if-not-may_go.false) ended (c.in_ok-take_late.ensures c.args.self.now)
