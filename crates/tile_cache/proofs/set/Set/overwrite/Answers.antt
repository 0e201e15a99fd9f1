-- The way at the line's place is written where it is held in M, and comes to the front.
use Rattle.std.proofs.Common.{refl, sym, ap, ◌∙◌, set}
use Rattle.tile_cache.specs.Cache.{is_m, way_written}
use Rattle.tile_cache.specs.Kept.{at_front}
use Rattle.tile_cache.proofs.SetLemmas.{absent, changed_front_at, find-absent, held_at}
use Rattle.tile_cache.proofs.set.Set.overwrite.Goals as goal

pub returns-in_default-clause-held : goal.returns-in_default-clause-held
returns-in_default-clause-held c = rw (find-absent c.args.line c.args.self.now.ways.items (absent c.args.line _ (sym c.in_default.ensures))) refl

pub returns-in_default-clause-ways : goal.returns-in_default-clause-ways
returns-in_default-clause-ways c = rw (find-absent c.args.line c.args.self.now.ways.items (absent c.args.line _ (sym c.in_default.ensures))) refl

pub returns-then-not-is_m-clause-held : goal.returns-then-not-is_m-clause-held
returns-then-not-is_m-clause-held c =
    c.if-not-is_m.ensures ∙ ap is_m (sym (held_at c.args.line c.args.self.now.ways.items c.in-Some.place c.index.result.now c.in-Some.ensures c.index.ensures))

pub returns-then-not-is_m-clause-ways : goal.returns-then-not-is_m-clause-ways
returns-then-not-is_m-clause-ways c = rw (← returns-then-not-is_m-clause-held c) refl

pub returns-clause-held : goal.returns-clause-held
returns-clause-held c =
    c.if-not-is_m.ensures ∙ ap is_m (sym (held_at c.args.line c.args.self.now.ways.items c.in-Some.place c.index.result.now c.in-Some.ensures c.index.ensures))

pub returns-clause-ways : goal.returns-clause-ways
returns-clause-ways c =
    rw (← returns-clause-held c)
    (c.to_front.ensures.ways
    ∙ ap (λ bytes. at_front c.in-Some.place (set c.args.self.now.ways.items c.in-Some.place (record c.index_mut.result.now { content = record { bytes = bytes } }))) c.store.ensures
    ∙ changed_front_at c.args.line (way_written c.args.offset c.args.size c.args.value) (λ way. refl) c.args.self.now.ways.items c.in-Some.place c.index_mut.result.now
    c.requires.once c.in-Some.ensures c.index_mut.ensures.value)
