-- The line comes to the front of its set, which has room.
use Rattle.std.proofs.Common.{length, ap, refl, ◌∙◌, ◌∷◌, arith, sym}
use Rattle.std.proofs.lemmas.List.{length-set}
use Rattle.tile_cache.specs.Cache.{Sets, others, way_of, with_set}
use Rattle.tile_cache.proofs.CacheLemmas.{IsSet-front}
use Rattle.tile_cache.proofs.CopyLemmas.{front_way}
use Rattle.tile_cache.proofs.KeptLemmas.{IsSet-here, is_cache, room-here, ways-same, kept-set, memory_here, set_at, set_of-here, view-set}
use Rattle.tile_cache.proofs.cache.Cache.place.Goals as goal

pub push_front-requires : goal.push_front-requires
push_front-requires c =
    let at = set_at c.self.invariant.0 c.self.view_is c.number-number.ensures.number c.number-number.ensures.within c.index_mut-set.ensures.value in
    let room = room-here at c.requires in
    let memory = memory_here at in
    let same = ways-same at in
    omega (arith, room, memory, same, c.take.ensures.memory, ap length c.take.ensures.ways, c.take.new.self.ways.ok.0)

pub invariant_of-self : goal.invariant_of-self
invariant_of-self c =
    let at = set_at c.self.invariant.0 c.self.view_is c.number-number.ensures.number c.number-number.ensures.within c.index_mut-set.ensures.value in
    let memory = memory_here at in (
      kept-set at c.push_front.new.self (omega (arith, c.take.ensures.memory, c.push_front.ensures.memory))
          (rw (c.push_front.ensures.ways, c.take.ensures.ways) (IsSet-front _ c.args.line _ _ refl (room-here at c.requires) (IsSet-here at))),
      c.self.invariant.1 ∙ sym (length-set _ _ _),
    )

pub returns-clause-cache : goal.returns-clause-cache
returns-clause-cache c =
    let at = set_at c.self.invariant.0 c.self.view_is c.number-number.ensures.number c.number-number.ensures.within c.index_mut-set.ensures.value in
    view-set at c.push_front.new.self
    ∙ ap (with_set c.args.self.now c.args.line)
    (c.push_front.ensures.ways ∙ ap (λ ways. record { line = c.args.line; hold = c.args.hold; content = c.args.content } ∷ ways) (c.take.ensures.ways ∙ ap (others c.args.line) (set_of-here at)))

pub returns-clause-way : goal.returns-clause-way
returns-clause-way c =
    let at = set_at c.self.invariant.0 c.self.view_is c.number-number.ensures.number c.number-number.ensures.within c.index_mut-set.ensures.value in
    ap (λ (d : Sets). way_of d c.args.line) (returns-clause-cache c)
    ∙ front_way c.args.self.now (record { line = c.args.line; hold = c.args.hold; content = c.args.content }) (is_cache at).some_set
