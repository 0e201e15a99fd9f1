-- A turn of the loop is an action of the run, and where no action is legal the rest of the run stays.
use Rattle.std.proofs.Common.{◌≡◌, ◌≤◌, ◌∙◌, ap, sym, arith, None}
use Rattle.flat_machine.specs.Run.{after, onward, legal_action}
use Rattle.flat_machine.proofs.RunLemmas.{after-zero, after-more, after-stopped, stays}
use Rattle.flat_machine.proofs.runner.run.Goals as goal

pub loop-made-init : goal.loop-made-init
loop-made-init c = c.in_ok-flat.ensures ∙ sym (after-zero c.args.world.now)

pub returns-then-not-branch : goal.returns-then-not-branch
returns-then-not-branch c =
    let before : c.loop-made.flat ≡ after c.args.world.now c.loop-made._made = c.loop-made.invariant in
    let stopped : legal_action c.args.world.now c.loop-made.flat ≡ None = c.in_ok-go_on.ensures.still c.if-not-branch.true in
    let within : c.loop-made._made ≤ c.args.most = omega arith in
    c.in_ok-go_on.ensures.onward ∙ stays c.args.world.now c.loop-made.flat stopped ∙ before
    ∙ sym (after-stopped c.args.world.now c.loop-made._made c.args.most within (ap (legal_action c.args.world.now) (sym before) ∙ stopped))

pub loop-made-preserved : goal.loop-made-preserved
loop-made-preserved c =
    let before : c.loop-made.flat ≡ after c.args.world.now c.loop-made._made = c.loop-made.invariant in
    c.in_ok-go_on.ensures.onward ∙ ap (onward c.args.world.now) before ∙ sym (after-more c.args.world.now c.loop-made._made)
