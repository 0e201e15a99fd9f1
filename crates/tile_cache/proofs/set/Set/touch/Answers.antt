-- The way at the line's place comes to the front.
use Rattle.std.proofs.Common.{sym, ◌∙◌}
use Rattle.tile_cache.proofs.SetLemmas.{absent, touched-absent, front_at}
use Rattle.tile_cache.proofs.set.Set.touch.Goals as goal

pub returns-in-Some-clause-ways : goal.returns-in-Some-clause-ways
returns-in-Some-clause-ways c = c.to_front.ensures.ways ∙ front_at c.args.line c.args.self.now.ways.items c.in-Some.place c.requires c.in-Some.ensures

pub returns-in_default-clause-ways : goal.returns-in_default-clause-ways
returns-in_default-clause-ways c = sym (touched-absent c.args.line _ (absent c.args.line _ (sym c.in_default.ensures)))
