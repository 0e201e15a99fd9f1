-- The call was answered.
use Rattle.std.proofs.Common.{◌≡◌, ◌+◌, max, ap, ◌∙◌}
use Rattle.sim_base.specs.Saturated.{saturated}
use Rattle.tile_core.specs.declared.cores.Status.TheVariants.{Called}
use Rattle.tile_node.proofs.Made.{return_makes}
use Rattle.tile_node.proofs.tile.TileNode.take_return.Goals as goal
use Rattle.tile_node.proofs.tile.TileNode.take_return.Goals.{in-Called, in_default}

pub returns : goal.returns
returns c =
    let called : c.self.inside.core.status ≡ Called = elim c.match-matches.branch [ in-Called w ↦ w.in-Called.is | in_default w ↦ cc ] in
    return_makes c.args.world.now _ _ c.self.view_is c.args.value c.args.time c.args.limit c.saturating_add-self-inside.result c.set.new.self called c.set.ensures.value
    (c.saturating_add-self-inside.ensures ∙ ap (λ n. saturated (n + c.config.result.now.call_cost)) c.max-met.ensures ∙ ap (λ s. saturated (max c.self.inside.core.clock c.args.time + s.call_cost)) c.config.ensures.value)
