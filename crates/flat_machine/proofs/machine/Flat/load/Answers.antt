-- The thread's move is the machine's.
use Rattle.std.proofs.Common.{◌≡◌, refl}
use Rattle.std.specs.Prelude.{Some, slice_get}
use Rattle.std.proofs.lemmas.Option.{slice_get_read}
use Rattle.flat_machine.specs.Action.{loaded}
use Rattle.flat_machine.proofs.MoveLemmas.{moved}
use Rattle.flat_machine.proofs.machine.Flat.load.Goals as goal

pub returns : goal.returns
returns c =
    let here : slice_get c.self.inside.threads.items c.args.number ≡ Some c.index_mut.result.now =
    slice_get_read c.self.inside.threads.items _ c.args.number _ refl (rw (← c.self.view_is) at c.requires) c.index_mut.ensures.value in
    rw (← c.self.view_is) (moved _ c.args.number (loaded c.self.inside.memory) _ c.load.new.thread c.load.result here c.load.ensures)
