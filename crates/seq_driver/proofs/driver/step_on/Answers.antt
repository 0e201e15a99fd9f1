-- The steps of the only node that can act are those that the stream draws.
use Rattle.std.proofs.Common.{◌≡◌, ◌<◌, length, sym, subst, rules}
use Rattle.node_machine.specs.declared.cores.ApplyFault.TheVariants.{NotEnabled}
use Rattle.node_machine.specs.Alone.{steps_of}
use Rattle.seq_driver.specs.Inner.{after_draws, IsUnderWay, IsDrawing}
use Rattle.seq_driver.proofs.LoneLemmas.{steps_go_on, never_refused}
use Rattle.seq_driver.proofs.driver.step_on.Goals as goal

pub returns-in-Err-NotEnabled : goal.returns-in-Err-NotEnabled
returns-in-Err-NotEnabled c =
    let fault : c.in-Err-NotEnabled.field-0 ≡ NotEnabled = search rules in
    absurd (never_refused c.args.world.now c.args.core.now _ c.args.stream.now c.args.journal.now c.args.node c.in-Err-NotEnabled.field-0
    c.requires.under_way c.requires.no_end c.requires.lone fault c.in-Err-NotEnabled.ensures.steps)

pub returns : goal.returns
returns c =
    let w = c.args.world.now in
    let steps = c.in-Ok.ensures.steps in
    let on = steps_go_on w c.args.core.now c.step_on.new.self c.args.stream.now c.args.journal.now c.args.node c.in-Ok.count
    c.requires.under_way c.requires.drawing c.requires.no_end c.requires.lone c.in-Ok.ensures.fits steps.1 steps.2 in
    let journal = sym c.in_ok-note_steps-in-Ok.ensures.journal in
    let stream = sym c.in_ok-note_steps-in-Ok.ensures.stream in (
      subst (λ events. length c.args.journal.now < length events) journal on.0,
      subst (IsUnderWay w c.step_on.new.self) journal on.1,
      subst (λ g. IsDrawing w g c.note_steps.new.journal) stream
          (subst (IsDrawing w (after_draws c.args.stream.now (steps_of c.args.node c.in-Ok.count))) journal on.2),
    )
