-- The statements of the listings are sound.
use Rattle.std.proofs.Common.{ℕ, ◌<◌, rules}
use Rattle.std.specs.List.{All, AllByRecursion}
use Rattle.std.proofs.lemmas.List.Elements.{All-from_recursion}
use Rattle.sim_base.specs.declared.kinds.Kind.{Kind}
use Rattle.sim_base.specs.declared.kinds.Kind.TheVariants.{Lock, Barrier, Pipeline, Reduce}
use Rattle.workload_gen.specs.Listing.{listing}
use Rattle.workload_gen.specs.Sound.{IsSound}

each_is_sound : (kind : Kind) (workers rounds : ℕ) → workers < 2048 → rounds < 2048 → AllByRecursion IsSound (listing kind workers rounds)
each_is_sound Lock workers rounds few short = search rules
each_is_sound Barrier workers rounds few short = search rules
each_is_sound Pipeline workers rounds few short = search rules
each_is_sound Reduce workers rounds few short = search rules

pub listing_is_sound : (kind : Kind) (workers rounds : ℕ) → workers < 2048 → rounds < 2048 → All IsSound (listing kind workers rounds)
listing_is_sound kind workers rounds few short =
    All-from_recursion IsSound (listing kind workers rounds) (each_is_sound kind workers rounds few short)
