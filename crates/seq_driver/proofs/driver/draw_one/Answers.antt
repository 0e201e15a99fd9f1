-- The event that the stream draws is made, or there is none.
use Rattle.std.proofs.Common.{◌≡◌, ◌<◌, [], ◌∷◌, ◌++◌, None, Some, length, sym, subst, arith, length-append, rules}
use Rattle.std.specs.Prelude.{Ok}
use Rattle.node_machine.specs.Core.{AppliesEnabled}
use Rattle.seq_driver.specs.Picked.{after_draw}
use Rattle.seq_driver.specs.Inner.{drawn_in, IsUnderWay, IsDrawing}
use Rattle.seq_driver.proofs.DrawLemmas.{stuck_at, is_enabled, run_goes_on, drawing_goes_on}
use Rattle.seq_driver.proofs.driver.draw_one.Goals as goal

pub returns-in_default : goal.returns-in_default
returns-in_default c =
    let none : drawn_in c.args.core.now c.args.stream.now ≡ None = search rules in
    stuck_at c.args.world.now c.args.core.now c.args.stream.now c.args.journal.now c.requires.under_way c.requires.drawing c.requires.no_end none

pub apply_enabled-requires-clause-enabled : goal.apply_enabled-requires-clause-enabled
apply_enabled-requires-clause-enabled c =
    let is : drawn_in c.args.core.now c.args.stream.now ≡ Some c.in-Some.event = search rules in
    is_enabled c.args.world.now c.args.core.now c.args.stream.now c.args.journal.now c.requires.under_way c.requires.drawing c.in-Some.event c.requires.no_end is

pub returns : goal.returns
returns c =
    let w = c.args.world.now in
    let is : drawn_in c.args.core.now c.args.stream.now ≡ Some c.in-Some.event = search rules in
    let applies : AppliesEnabled w c.in-Some.event (Ok c.in_ok-apply_enabled.field-0) c.args.core.now c.apply_enabled.new.self = c.in_ok-apply_enabled.ensures.applies in
    let under : IsUnderWay w c.apply_enabled.new.self (c.args.journal.now ++ c.in-Some.event ∷ []) =
    run_goes_on w c.args.core.now c.args.stream.now c.args.journal.now c.requires.under_way c.requires.drawing c.in-Some.event c.requires.no_end is c.apply_enabled.new.self c.in_ok-apply_enabled.field-0
    c.in_ok-apply_enabled.ensures.fits applies.0 applies.1 in
    let drawing : IsDrawing w (after_draw c.args.stream.now) (c.args.journal.now ++ c.in-Some.event ∷ []) =
    drawing_goes_on w c.args.core.now c.args.stream.now c.args.journal.now c.requires.under_way c.requires.drawing c.in-Some.event c.requires.no_end is in
    let pushed : c.push.new.self ≡ c.args.journal.now ++ c.in-Some.event ∷ [] = search rules in
    let drew : c.drawn_event.new.stream ≡ after_draw c.args.stream.now = search rules in (
      subst (λ events. length c.args.journal.now < length events) (sym pushed) (omega (arith, length-append c.args.journal.now (c.in-Some.event ∷ []))),
      subst (IsUnderWay w c.apply_enabled.new.self) (sym pushed) under,
      subst (λ g. IsDrawing w g c.push.new.self) (sym drew) (subst (IsDrawing w (after_draw c.args.stream.now)) (sym pushed) drawing),
    )
