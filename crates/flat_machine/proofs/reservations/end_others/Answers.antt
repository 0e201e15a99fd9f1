-- The writer keeps its own reservation.
use Rattle.std.proofs.Common.{◌≡◌, map, vec_len}
use Rattle.std.specs.Prelude.{Some, slice_get}
use Rattle.std.proofs.lemmas.Option.{slice_get_read}
use Rattle.flat_machine.specs.Reservation.{without_reservation}
use Rattle.flat_machine.proofs.ReservationLemmas.{kept_own}
use Rattle.flat_machine.proofs.reservations.end_others.Goals as goal

pub returns : goal.returns
returns c =
    let own : slice_get c.args.threads.now.items c.args.index ≡ Some c.index.result.now =
    slice_get_read _ (vec_len c.args.threads.now) c.args.index _ c.args.threads.now.ok.0 c.requires c.index.ensures in
    let ended : slice_get (map (without_reservation c.in-Some.span) c.args.threads.now.items) c.args.index ≡ Some c.index_mut.result.now =
    rw (← c.end_all.ensures.threads) (slice_get_read _ (vec_len c.end_all.new.threads) c.args.index _ c.end_all.new.threads.ok.0 (rw c.end_all.ensures.len c.requires) c.index_mut.ensures.value) in
    rw (c.in-Some.is, c.end_all.ensures.threads) (kept_own c.in-Some.span c.args.threads.now.items c.args.index _ _ own ended)
