use Rattle.std.proofs.Common.{arith}
use Rattle.workload_gen.proofs.Sound.{listing_is_sound}
use Rattle.workload_gen.proofs.generator.generate.Goals as goal

pub assemble-requires-clause-sound : goal.assemble-requires-clause-sound
assemble-requires-clause-sound c =
    rw (c.as_slice.ensures.value, c.in_ok-listing.ensures) (listing_is_sound c.args.kind _ _ (omega arith) (omega arith))
