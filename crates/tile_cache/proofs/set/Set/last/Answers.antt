-- The slice's last is the set's.
use Rattle.std.proofs.Common.{◌-◌, ap, ◌∙◌, length}
use Rattle.std.specs.List.{slice_get}
use Rattle.tile_cache.proofs.SetLemmas.{slice_get-last}
use Rattle.tile_cache.proofs.set.Set.last.Goals as goal

pub returns : goal.returns
returns c = c.last.ensures.value ∙ ap (λ ways. slice_get ways (length ways - 1)) c.deref.ensures.value ∙ slice_get-last c.args.self.now.ways.items
