-- The way at the line's place is read, and comes to the front.
use Rattle.std.proofs.Common.{Some, ap, sym, ◌∙◌}
use Rattle.std.specs.Prelude.{slice_index}
use Rattle.std.specs.Option.{option_map}
use Rattle.sim_base.specs.LittleEndian.{loaded}
use Rattle.tile_cache.specs.declared.ways.Way.{Way}
use Rattle.tile_cache.proofs.SetLemmas.{absent, find-absent, found_at, front_at, touched-absent}
use Rattle.tile_cache.proofs.set.Set.read.Goals as goal

pub returns-in_err-place-clause-number : goal.returns-in_err-place-clause-number
returns-in_err-place-clause-number c =
    rw (find-absent c.args.line c.args.self.now.ways.items (absent c.args.line _ (sym c.in_err-place.ensures))) c.from_residual.ensures

pub returns-in_err-place-clause-ways : goal.returns-in_err-place-clause-ways
returns-in_err-place-clause-ways c = sym (touched-absent c.args.line _ (absent c.args.line _ (sym c.in_err-place.ensures)))

pub returns-clause-number : goal.returns-clause-number
returns-clause-number c =
    ap Some c.load-number.ensures.value
    ∙ ap (option_map (λ (way : Way). loaded (slice_index way.content.bytes) c.args.offset c.args.size))
    (found_at c.args.line c.args.self.now.ways.items c.in_ok-place.place c.index.result.now c.in_ok-place.ensures c.index.ensures)

pub returns-clause-ways : goal.returns-clause-ways
returns-clause-ways c =
    c.to_front.ensures.ways ∙ front_at c.args.line c.args.self.now.ways.items c.in_ok-place.place c.requires.once c.in_ok-place.ensures
