-- A lone thread's next instruction is its machine's only legal action, unless it is a store-conditional.
use Rattle.std.proofs.Common.{◌≡◌, refl, sym, ◌∙◌, ap, length, ◌<◌, arith}
use Rattle.std.specs.Prelude.{Some, slice_get}
use Rattle.std.proofs.lemmas.Option.{slice_get_read}
use Rattle.flat_machine.specs.Action.{step_of, conditional_rd, executed_by_step}
use Rattle.flat_machine.proofs.LegalLemmas.{ready_stopped, ready_made}
use Rattle.flat_machine.proofs.RunLemmas.{stays}
use Rattle.flat_machine.proofs.machine.Flat.go_on_ready.Goals as goal
use Rattle.flat_machine.proofs.machine.Flat.go_on_ready.Goals.{in-Ok, in-Err-NoMemory}

pub returns-then-is_some-clause-still : goal.returns-then-is_some-clause-still
returns-then-is_some-clause-still c =
    let alone = rw (← c.self.view_is) at c.requires in
    let here : slice_get c.self.inside.threads.items 0 ≡ Some c.index.result.now =
    slice_get_read c.self.inside.threads.items _ 0 _ refl (omega (arith, ap length alone.1)) c.index.ensures in
    let rd = ap conditional_rd c.step_of-step.ensures.step in
    λ _. rw (← c.self.view_is) (ready_stopped c.args.world.now _ c.index.result.now c.conditional_rd.result alone here (c.conditional_rd.ensures.value ∙ rd) (sym c.is_some.ensures ∙ c.if-is_some.true))

pub returns-then-is_some-clause-onward : goal.returns-then-is_some-clause-onward
returns-then-is_some-clause-onward c = sym (stays c.args.world.now c.args.self.now (returns-then-is_some-clause-still c refl))

pub returns-clause-onward : goal.returns-clause-onward
returns-clause-onward c =
    let alone = rw (← c.self.view_is) at c.requires in
    let some : 0 < length c.self.inside.threads.items = omega (arith, ap length alone.1) in
    let read : slice_get c.self.inside.threads.items 0 ≡ Some c.index.result.now = slice_get_read c.self.inside.threads.items _ 0 _ refl some c.index.ensures in
    let here : slice_get c.self.inside.threads.items 0 ≡ Some c.index_mut.result.now = slice_get_read c.self.inside.threads.items _ 0 _ refl some c.index_mut.ensures.value in
    let same : c.index.result.now ≡ c.index_mut.result.now = cc in
    let step : c.step_of-step.result ≡ step_of c.args.world.now 0 c.index_mut.result.now = c.step_of-step.ensures.step ∙ ap (step_of c.args.world.now 0) same in
    let rd = c.conditional_rd.ensures.value ∙ ap conditional_rd step in
    elim c.match-make.branch [
      | in-Ok w ↦
          let done = ap (executed_by_step c.self.inside.memory c.index_mut.result.now) (sym step) ∙ w.in-Ok.ensures in
          rw (w.result-is, ← c.self.view_is)
          (ready_made c.args.world.now _ c.index_mut.result.now c.conditional_rd.result _ alone here rd (sym c.is_some.ensures ∙ c.if-is_some.false) done)
      | in-Err-NoMemory w ↦ rw w.result-is tt
    ]
