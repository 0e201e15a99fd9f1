-- The line is read in its set, and comes to the front of it.
use Rattle.std.proofs.Common.{ap, sym, ◌∙◌, arith}
use Rattle.std.proofs.lemmas.List.{length-set}
use Rattle.tile_cache.specs.Cache.{with_set}
use Rattle.tile_cache.specs.Kept.{touched_ways}
use Rattle.tile_cache.proofs.CacheLemmas.{IsSet-touched, touched-set}
use Rattle.tile_cache.proofs.KeptLemmas.{IsSet-here, kept-set, memory_here, set_at, set_of-here, view-set}
use Rattle.tile_cache.proofs.cache.Cache.read.Goals as goal

pub read-requires-clause-once : goal.read-requires-clause-once
read-requires-clause-once c =
    (IsSet-here (set_at c.self.invariant.0 c.self.view_is c.number-number.ensures.number c.number-number.ensures.within c.index_mut.ensures.value)).once

pub invariant_of-self : goal.invariant_of-self
invariant_of-self c =
    let at = set_at c.self.invariant.0 c.self.view_is c.number-number.ensures.number c.number-number.ensures.within c.index_mut.ensures.value in (
      kept-set at c.read.new.self (let memory = memory_here at in omega (arith, c.read.ensures.memory)) (rw c.read.ensures.ways (IsSet-touched _ c.args.line _ (IsSet-here at))),
      c.self.invariant.1 ∙ sym (length-set _ _ _),
    )

pub returns-clause-cache : goal.returns-clause-cache
returns-clause-cache c =
    let at = set_at c.self.invariant.0 c.self.view_is c.number-number.ensures.number c.number-number.ensures.within c.index_mut.ensures.value in
    view-set at c.read.new.self
    ∙ ap (with_set c.args.self.now c.args.line) (c.read.ensures.ways ∙ ap (touched_ways c.args.line) (set_of-here at))
    ∙ sym (touched-set c.args.self.now c.args.line)
