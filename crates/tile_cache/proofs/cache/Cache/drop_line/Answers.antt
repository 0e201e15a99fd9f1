-- The line leaves its set.
use Rattle.std.proofs.Common.{ap, ◌∙◌, arith, sym}
use Rattle.std.proofs.lemmas.List.{length-set}
use Rattle.tile_cache.specs.Cache.{Sets, others, victim_of, with_set}
use Rattle.tile_cache.proofs.CacheLemmas.{IsSet-others}
use Rattle.tile_cache.proofs.CopyLemmas.{victim_leaves}
use Rattle.tile_cache.proofs.KeptLemmas.{IsSet-here, is_cache, kept-set, memory_here, set_at, set_of-here, view-set}
use Rattle.tile_cache.proofs.cache.Cache.drop_line.Goals as goal

pub take-requires : goal.take-requires
take-requires c =
    (IsSet-here (set_at c.self.invariant.0 c.self.view_is c.number-number.ensures.number c.number-number.ensures.within c.index_mut.ensures.value)).once

pub invariant_of-self : goal.invariant_of-self
invariant_of-self c =
    let at = set_at c.self.invariant.0 c.self.view_is c.number-number.ensures.number c.number-number.ensures.within c.index_mut.ensures.value in (
      kept-set at c.take.new.self (omega (arith, memory_here at)) (rw c.take.ensures.ways (IsSet-others _ _ c.args.line _ (IsSet-here at))),
      c.self.invariant.1 ∙ sym (length-set _ _ _),
    )

pub returns-clause-cache : goal.returns-clause-cache
returns-clause-cache c =
    let at = set_at c.self.invariant.0 c.self.view_is c.number-number.ensures.number c.number-number.ensures.within c.index_mut.ensures.value in
    view-set at c.take.new.self
    ∙ ap (with_set c.args.self.now c.args.line) (c.take.ensures.ways ∙ ap (others c.args.line) (set_of-here at))

pub returns-clause-room : goal.returns-clause-room
returns-clause-room c =
    let at = set_at c.self.invariant.0 c.self.view_is c.number-number.ensures.number c.number-number.ensures.within c.index_mut.ensures.value in
    λ k hold e. ap (λ (d : Sets). victim_of d k) (returns-clause-cache c) ∙ victim_leaves c.args.self.now c.args.line (is_cache at) k hold e
