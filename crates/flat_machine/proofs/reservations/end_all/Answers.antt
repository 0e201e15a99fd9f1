use Rattle.std.proofs.Common.{◌<◌, length, arith}
use Rattle.std.proofs.lemmas.List.Edits.{map_over_more}
use Rattle.flat_machine.specs.Reservation.{without_reservation}
use Rattle.flat_machine.proofs.reservations.end_all.Goals as goal

pub loop-index-preserved : goal.loop-index-preserved
loop-index-preserved c =
    let room : c.loop-index.index < length c.args.threads.now.items = omega (arith, c.args.threads.now.ok.0, c.len-index-end.ensures) in
    record {
      same = c.loop-index.invariant.same;
      ended = rw c.unless_written-thread.ensures (map_over_more (without_reservation c.args.written.now) c.args.threads.now.items c.loop-index.threads.items c.loop-index.index c.index_mut-thread.result.now room c.loop-index.invariant.ended c.index_mut-thread.ensures.value);
    }
