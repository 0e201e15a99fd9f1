-- The slice of the start knows nobody yet.
use Rattle.std.proofs.Common.{refl}
use Rattle.dir_slice.proofs.Starts.{start_within}
use Rattle.dir_slice.proofs.directory.Dir.new.Goals as goal

pub invariant_of-result : goal.invariant_of-result
invariant_of-result c = start_within c.args.world.now c.args.tile c.config.result.now.tiles c.in_ok-homes.homes c.in_ok-homes.ensures

pub returns : goal.returns
returns c = rw (c.in_ok-homes.ensures, c.config.ensures.value) refl
