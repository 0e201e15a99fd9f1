-- The way at the line's place is held in S.
use Rattle.std.proofs.Common.{sym}
use Rattle.tile_cache.specs.Cache.{way_downgraded}
use Rattle.tile_cache.proofs.SetLemmas.{absent, changed-absent, changed_at}
use Rattle.tile_cache.proofs.set.Set.downgrade.Goals as goal

pub returns-in-Some-clause-ways : goal.returns-in-Some-clause-ways
returns-in-Some-clause-ways c =
    changed_at c.args.line way_downgraded c.args.self.now.ways.items c.in-Some.place c.index_mut.result.now c.requires c.in-Some.ensures c.index_mut.ensures.value

pub returns-in_default-clause-ways : goal.returns-in_default-clause-ways
returns-in_default-clause-ways c =
    sym (changed-absent c.args.line _ _ (absent c.args.line _ (sym c.in_default.ensures)))
