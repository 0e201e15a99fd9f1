-- The thread's beginning is the machine's.
use Rattle.std.proofs.Common.{◌≡◌, refl, ◌∙◌, sym, true}
use Rattle.std.specs.Prelude.{Some, slice_get}
use Rattle.std.proofs.lemmas.Option.{slice_get_read}
use Rattle.flat_machine.specs.Action.{begun_by, is_vacant}
use Rattle.flat_machine.proofs.MoveLemmas.{moved, begins}
use Rattle.flat_machine.proofs.machine.Flat.begin.Goals as goal

pub returns : goal.returns
returns c =
    let here : slice_get c.self.inside.threads.items c.args.number ≡ Some c.index_mut.result.now =
    slice_get_read c.self.inside.threads.items _ c.args.number _ refl (rw (← c.self.view_is) at c.requires) c.index_mut.ensures.value in
    let room : is_vacant c.args.world.now c.args.self.now c.args.tile ≡ true = sym c.is_vacant.ensures ∙ c.if-not-is_vacant.false in
    let there = rw (← c.self.view_is) at (begins c.args.world.now c.args.self.now c.args.number c.args.tile room) in
    rw (← c.self.view_is, ← there)
    (moved _ c.args.number (λ t. begun_by c.args.world.now c.args.tile t true t.status) _ c.begin.new.thread c.begin.result here c.begin.ensures)
