-- The node has made one step more, or all that it may.
use Rattle.std.proofs.Common.{true, false, sym, ◌∙◌, arith}
use Rattle.std.specs.Prelude.{Ok}
use Rattle.node_machine.specs.Inner.{StepsOnce}
use Rattle.node_machine.proofs.AloneLemmas.{none_yet, can_now, one_more_step, ends_after}
use Rattle.node_machine.proofs.nodes.Node.step_on.Goals as goal

pub loop-done-init : goal.loop-done-init
loop-done-init c = record {
  so_far = none_yet c.args.world.now c.args.self.now c.requires.can;
  fits = c.requires.fits;
  none = c.requires.none_sent;
}

pub step_once-requires-clause-fits : goal.step_once-requires-clause-fits
step_once-requires-clause-fits c = c.loop-done.invariant.fits

pub step_once-requires-clause-can : goal.step_once-requires-clause-can
step_once-requires-clause-can c = can_now c.args.world.now c.args.self.now c.loop-done.self c.loop-done.self c.loop-done.done c.loop-done.invariant.so_far

pub returns-then-not-branch-clause-steps : goal.returns-then-not-branch-clause-steps
returns-then-not-branch-clause-steps c =
    let w = c.args.world.now in
    let made : StepsOnce w (Ok false) c.loop-done.self c.step_once.new.self c.step_once.new.out.items = rw c.if-not-branch.true at c.in_ok-step_once.ensures.step in
    ends_after w c.args.self.now c.loop-done.self c.step_once.new.self c.loop-done.done c.loop-done.invariant.so_far made.node c.args.most c.step_once.new.out.items (omega arith) made.sent
    (λ _. made.stops)

pub loop-done-preserved : goal.loop-done-preserved
loop-done-preserved c =
    let w = c.args.world.now in
    let made : StepsOnce w (Ok true) c.loop-done.self c.step_once.new.self c.step_once.new.out.items = rw c.if-not-branch.false at c.in_ok-step_once.ensures.step in
    record {
      so_far = one_more_step w c.args.self.now c.loop-done.self c.step_once.new.self c.loop-done.done c.loop-done.invariant.so_far made.node (sym made.sent ∙ made.none) made.again;
      fits = c.in_ok-step_once.ensures.fits;
      none = made.none;
    }
