-- The way at the line's place is written.
use Rattle.std.proofs.Common.{sym, ap, ◌∙◌, set}
use Rattle.tile_cache.specs.Cache.{way_written}
use Rattle.tile_cache.proofs.SetLemmas.{absent, changed-absent, changed_at}
use Rattle.tile_cache.proofs.set.Set.write.Goals as goal

pub returns-in-Some-clause-ways : goal.returns-in-Some-clause-ways
returns-in-Some-clause-ways c =
    ap (λ bytes. set c.args.self.now.ways.items c.in-Some.place (record c.index_mut.result.now { content = record { bytes = bytes } })) c.store.ensures
    ∙ changed_at c.args.line (way_written c.args.offset c.args.size c.args.value) c.args.self.now.ways.items c.in-Some.place c.index_mut.result.now
    c.requires.once c.in-Some.ensures c.index_mut.ensures.value

pub returns-in_default-clause-ways : goal.returns-in_default-clause-ways
returns-in_default-clause-ways c =
    sym (changed-absent c.args.line _ _ (absent c.args.line _ (sym c.in_default.ensures)))
