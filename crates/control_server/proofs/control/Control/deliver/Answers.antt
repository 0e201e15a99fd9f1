-- The delivery ends as its definition says, or spent.
use Rattle.std.proofs.Common.{◌≡◌, Bool, false, ap, sym, ◌∙◌}
use Rattle.control_server.specs.Control.{Control, Act}
use Rattle.control_server.specs.Deliver.{control_delivered}
use Rattle.control_server.proofs.Orderly.{delivered_orderly}
use Rattle.control_server.proofs.Ending.{ends, in_order_after, delivered_unspent}
use Rattle.control_server.proofs.control.Control.deliver.Goals as goal

pub returns : goal.returns
returns c =
    let fresh : c.args.self.now.spent ≡ false = ap (λ s. s.spent) (sym c.self.view_is) ∙ c.if-self.false in
    let with : Control → Bool → Control = λ s b. record s { spent = b } in
    let act : Act = control_delivered c.args.world.now c.args.self.now c.args.from c.args.msg in
    let ending = ends c.take-result.result act c.args.self.now c.take-result.new.self _ c.args.out.now.items c.take-result.new.out.items fresh (delivered_unspent c.args.world.now c.args.self.now c.args.from c.args.msg fresh) c.take-result.ensures
    (ap (λ s. with s c.is_err-self-inside.result) c.self-2.view_is ∙ ap (with c.take-result.new.self) c.is_err-self-inside.ensures.value) in
    record {
      answers = ending;
      in_order = in_order_after c.args.world.now c.take-result.result act c.args.self.now _ c.args.out.now.items c.take-result.new.out.items ending (λ unspent. delivered_orderly c.args.world.now c.args.self.now c.args.from c.args.msg (c.requires.orderly unspent));
    }
