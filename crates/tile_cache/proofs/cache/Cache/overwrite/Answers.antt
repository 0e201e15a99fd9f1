-- The line is written in its set where it is held in M, and comes to the front of it.
use Rattle.std.proofs.Common.{ap, sym, ◌∙◌, arith}
use Rattle.std.proofs.lemmas.List.{length-set}
use Rattle.tile_cache.specs.Cache.{with_set}
use Rattle.tile_cache.proofs.CacheLemmas.{IsSet-overwritten, overwritten_ways, overwritten-set}
use Rattle.tile_cache.proofs.KeptLemmas.{IsSet-here, is_cache, kept-set, memory_here, set_at, set_of-here, view-set}
use Rattle.tile_cache.proofs.cache.Cache.overwrite.Goals as goal

pub overwrite-requires-clause-once : goal.overwrite-requires-clause-once
overwrite-requires-clause-once c =
    (IsSet-here (set_at c.self.invariant.0 c.self.view_is c.number-number.ensures.number c.number-number.ensures.within c.index_mut.ensures.value)).once

pub invariant_of-self : goal.invariant_of-self
invariant_of-self c =
    let at = set_at c.self.invariant.0 c.self.view_is c.number-number.ensures.number c.number-number.ensures.within c.index_mut.ensures.value in (
      kept-set at c.overwrite.new.self (let memory = memory_here at in omega (arith, c.overwrite.ensures.memory))
          (rw c.overwrite.ensures.ways (IsSet-overwritten _ c.args.line c.args.offset c.args.size c.args.value _ (IsSet-here at))),
      c.self.invariant.1 ∙ sym (length-set _ _ _),
    )

pub returns-clause-cache : goal.returns-clause-cache
returns-clause-cache c =
    let at = set_at c.self.invariant.0 c.self.view_is c.number-number.ensures.number c.number-number.ensures.within c.index_mut.ensures.value in
    view-set at c.overwrite.new.self
    ∙ ap (with_set c.args.self.now c.args.line)
    (c.overwrite.ensures.ways ∙ ap (overwritten_ways c.args.line c.args.offset c.args.size c.args.value) (set_of-here at))
    ∙ overwritten-set c.args.self.now c.args.line c.args.offset c.args.size c.args.value (is_cache at).some_set
