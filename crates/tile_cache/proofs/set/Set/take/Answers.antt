-- The way at the line's place is taken out.
use Rattle.std.proofs.Common.{sym, ◌∙◌}
use Rattle.tile_cache.proofs.SetLemmas.{absent, find-absent, others-absent, found_at, removed_at}
use Rattle.tile_cache.proofs.set.Set.take.Goals as goal

pub returns-in-Some-clause-taken : goal.returns-in-Some-clause-taken
returns-in-Some-clause-taken c = found_at c.args.line c.args.self.now.ways.items c.in-Some.place c.remove.result c.in-Some.ensures c.remove.ensures.value

pub returns-in-Some-clause-ways : goal.returns-in-Some-clause-ways
returns-in-Some-clause-ways c = c.remove.ensures.items ∙ removed_at c.args.line c.args.self.now.ways.items c.in-Some.place c.requires c.in-Some.ensures

pub returns-in-None-clause-taken : goal.returns-in-None-clause-taken
returns-in-None-clause-taken c = sym (find-absent c.args.line _ (absent c.args.line _ (sym c.in-None.ensures)))

pub returns-in-None-clause-ways : goal.returns-in-None-clause-ways
returns-in-None-clause-ways c = sym (others-absent c.args.line _ (absent c.args.line _ (sym c.in-None.ensures)))
