-- The line comes to the front of its set.
use Rattle.std.proofs.Common.{ap, sym, ◌∙◌, arith}
use Rattle.std.proofs.lemmas.List.{length-set}
use Rattle.tile_cache.specs.Cache.{Sets, way_of, with_set}
use Rattle.tile_cache.specs.Kept.{touched_ways}
use Rattle.tile_cache.proofs.CacheLemmas.{IsSet-touched, touched-set}
use Rattle.tile_cache.proofs.CopyLemmas.{touched_way}
use Rattle.tile_cache.proofs.KeptLemmas.{IsSet-here, is_cache, kept-set, memory_here, set_at, set_of-here, view-set}
use Rattle.tile_cache.proofs.cache.Cache.touch.Goals as goal

pub touch-requires : goal.touch-requires
touch-requires c =
    (IsSet-here (set_at c.self.invariant.0 c.self.view_is c.number-number.ensures.number c.number-number.ensures.within c.index_mut.ensures.value)).once

pub invariant_of-self : goal.invariant_of-self
invariant_of-self c =
    let at = set_at c.self.invariant.0 c.self.view_is c.number-number.ensures.number c.number-number.ensures.within c.index_mut.ensures.value in (
      kept-set at c.touch.new.self (let memory = memory_here at in omega (arith, c.touch.ensures.memory)) (rw c.touch.ensures.ways (IsSet-touched _ c.args.line _ (IsSet-here at))),
      c.self.invariant.1 ∙ sym (length-set _ _ _),
    )

pub returns-clause-cache : goal.returns-clause-cache
returns-clause-cache c =
    let at = set_at c.self.invariant.0 c.self.view_is c.number-number.ensures.number c.number-number.ensures.within c.index_mut.ensures.value in
    view-set at c.touch.new.self
    ∙ ap (with_set c.args.self.now c.args.line) (c.touch.ensures.ways ∙ ap (touched_ways c.args.line) (set_of-here at))
    ∙ sym (touched-set c.args.self.now c.args.line)

pub returns-clause-way : goal.returns-clause-way
returns-clause-way c =
    let at = set_at c.self.invariant.0 c.self.view_is c.number-number.ensures.number c.number-number.ensures.within c.index_mut.ensures.value in
    ap (λ (d : Sets). way_of d c.args.line) (returns-clause-cache c) ∙ touched_way c.args.self.now c.args.line (is_cache at).some_set
