-- The closure of `find` computes the test of the definition, and so `find` gives what the definition finds.
use Rattle.std.proofs.Common.{◌*◌, ◌+◌, nat_le, ap, rules, tests, arith, sym, ◌∙◌}
use Rattle.std.specs.Option.{unwrap_or}
use Rattle.std.proofs.lemmas.Iterator.{YieldsList-from_range}
use Rattle.std.proofs.lemmas.Iterator.Adapters.{option_map_id}
use Rattle.std.proofs.lemmas.Iterator.Search.{find_from_yields_List}
use Rattle.mesh_model.specs.Mesh.{side}
use Rattle.mesh_model.proofs.distances.side_of_any.Goals as goal

pub returns : goal.returns
unfolding side
returns c =
    let tiles = c.args.config.now.tiles in
    let found = find_from_yields_List (λ w. nat_le tiles (w * w)) _ _ c.find.result c.find.ensures.ran (YieldsList-from_range 0 (tiles + 1) (tiles + 1) (cc) (omega arith)) (λ x b q k. search (rules, tests)) in
    c.unwrap_or.ensures ∙ ap (λ r. unwrap_or r 0) (sym (option_map_id c.find.result) ∙ found)
