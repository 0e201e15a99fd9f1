-- The line's set is written there.
use Rattle.std.proofs.Common.{ap, refl, ◌∙◌, arith, sym}
use Rattle.std.proofs.lemmas.List.{length-set}
use Rattle.tile_cache.specs.Cache.{way_written, with_line_changed, with_set}
use Rattle.tile_cache.proofs.CacheLemmas.{IsSet-changed}
use Rattle.tile_cache.proofs.KeptLemmas.{IsSet-here, kept-set, memory_here, set_at, set_of-here, view-set}
use Rattle.tile_cache.proofs.cache.Cache.write.Goals as goal

pub invariant_of-self : goal.invariant_of-self
invariant_of-self c =
    let at = set_at c.self.invariant.0 c.self.view_is c.number-number.ensures.number c.number-number.ensures.within c.index_mut.ensures.value in (
      kept-set at c.write.new.self (omega (arith, memory_here at))
          (rw c.write.ensures.ways (IsSet-changed _ _ c.args.line (way_written c.args.offset c.args.size c.args.value) _ (λ way. refl) (IsSet-here at))),
      c.self.invariant.1 ∙ sym (length-set _ _ _),
    )

pub returns : goal.returns
returns c =
    let at = set_at c.self.invariant.0 c.self.view_is c.number-number.ensures.number c.number-number.ensures.within c.index_mut.ensures.value in
    view-set at c.write.new.self
    ∙ ap (with_set c.args.self.now c.args.line)
    (c.write.ensures.ways ∙ ap (with_line_changed c.args.line (way_written c.args.offset c.args.size c.args.value)) (set_of-here at))
