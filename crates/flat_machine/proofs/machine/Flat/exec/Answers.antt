-- An instruction that is made ends the others' reservations of what it wrote, and one that isn't changes nothing.
use Rattle.std.proofs.Common.{◌≡◌, refl}
use Rattle.std.specs.Prelude.{Some, slice_get}
use Rattle.std.proofs.lemmas.Option.{slice_get_read}
use Rattle.flat_machine.proofs.MoveLemmas.{not_executed, was_executed}
use Rattle.flat_machine.proofs.machine.Flat.exec.Goals as goal

pub returns-in-Ok : goal.returns-in-Ok
returns-in-Ok c =
    let here : slice_get c.self.inside.threads.items c.args.number ≡ Some c.index_mut.result.now =
    slice_get_read c.self.inside.threads.items _ c.args.number _ refl (rw (← c.self.view_is) at c.requires) c.index_mut.ensures.value in
    rw (← c.self.view_is, c.end_others.ensures) (was_executed c.args.world.now _ c.args.number _ c.execute.new.thread c.execute.new.memory c.in-Ok.written here c.in-Ok.ensures)

pub returns-in-Err : goal.returns-in-Err
returns-in-Err c =
    let here : slice_get c.self.inside.threads.items c.args.number ≡ Some c.index_mut.result.now =
    slice_get_read c.self.inside.threads.items _ c.args.number _ refl (rw (← c.self.view_is) at c.requires) c.index_mut.ensures.value in
    rw (← c.self.view_is) (not_executed c.args.world.now _ c.args.number _ c.execute.new.thread c.execute.new.memory c.in-Err.fault here c.in-Err.ensures)
