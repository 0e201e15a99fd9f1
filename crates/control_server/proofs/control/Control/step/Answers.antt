-- The step ends as its definition says, or spent.
use Rattle.std.proofs.Common.{◌≡◌, Bool, false, ap, sym, ◌∙◌}
use Rattle.control_server.specs.Control.{Control, Act}
use Rattle.control_server.specs.Serve.{control_step}
use Rattle.control_server.proofs.Orderly.{step_orderly}
use Rattle.control_server.proofs.Ending.{ends, in_order_after, step_unspent}
use Rattle.control_server.proofs.control.Control.step.Goals as goal

pub returns : goal.returns
returns c =
    let fresh : c.args.self.now.spent ≡ false = ap (λ s. s.spent) (sym c.self.view_is) ∙ c.if-self.false in
    let with : Control → Bool → Control = λ s b. record s { spent = b } in
    let act : Act = control_step c.args.world.now c.args.self.now in
    let ending = ends c.take_first-result.result act c.args.self.now c.take_first-result.new.self _ c.args.out.now.items c.take_first-result.new.out.items fresh (step_unspent c.args.world.now c.args.self.now fresh) c.take_first-result.ensures
    (ap (λ s. with s c.is_err-self-inside.result) c.self-2.view_is ∙ ap (with c.take_first-result.new.self) c.is_err-self-inside.ensures.value) in
    record {
      answers = ending;
      in_order = in_order_after c.args.world.now c.take_first-result.result act c.args.self.now _ c.args.out.now.items c.take_first-result.new.out.items ending (λ unspent. step_orderly c.args.world.now c.args.self.now c.requires.can (c.requires.in_order.orderly unspent));
    }
