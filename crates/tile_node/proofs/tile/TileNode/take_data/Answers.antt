-- The line that comes is placed, and what waited for it is done.
use Rattle.std.proofs.Common.{ap, ◌∙◌}
use Rattle.std.specs.Prelude.{Some, None}
use Rattle.tile_core.specs.declared.cores.Status.TheVariants.{Miss}
use Rattle.tile_core.specs.Core.{line_missed}
use Rattle.tile_node.specs.Deliver.{hold_suits}
use Rattle.tile_node.proofs.Made.{not_missed, is_missed, miss_ended}
use Rattle.tile_node.proofs.tile.TileNode.take_data.Goals as goal

pub returns-in_default : goal.returns-in_default
returns-in_default c =
    not_missed c.args.world.now c.args.self.now c.args.line c.args.hold c.args.content.now c.args.delay c.args.out.now.items c.args.self.now.core.status
    (λ access e. c.in_default.not-Miss access (ap (λ t. t.core.status) c.self.view_is ∙ e))

pub returns-in-Some : goal.returns-in-Some
returns-in-Some c =
    let write = c.self.inside.core.write in
    miss_ended c.args.world.now _ c.args.self.now _ c.self.view_is c.args.line c.args.hold c.args.content.now c.args.delay (Some c.in-Some.access) c.place.new.self c.end_access.new.self _ _ c.end_access.result
    (c.in-Miss.is ∙ ap Miss c.in-Some.is)
    (is_missed (Some c.in-Some.access) write c.args.line c.line_missed.result c.args.hold c.hold_suits.result
    (c.line_missed.ensures ∙ ap (line_missed write) (c.as_ref.ensures.value ∙ c.in-Some.is)) c.if-line_missed-line.false
    (c.hold_suits.ensures ∙ ap (λ access. hold_suits access c.args.hold) (c.as_ref-else-line_missed-line.ensures.value ∙ c.in-Some.is)) c.if-not-hold_suits.false)
    (c.self-2.view_is ∙ c.in_ok-make_room.ensures.tile) c.in_ok-make_room.ensures.told c.place.ensures.cache c.end_access.ensures.tile c.end_access.ensures.action

pub returns-in-None : goal.returns-in-None
returns-in-None c =
    let write = c.self.inside.core.write in
    miss_ended c.args.world.now _ c.args.self.now _ c.self.view_is c.args.line c.args.hold c.args.content.now c.args.delay None c.place.new.self c.end_byte.new.self _ _ c.end_byte.result
    (c.in-Miss.is ∙ ap Miss c.in-None.is)
    (is_missed None write c.args.line c.line_missed.result c.args.hold c.hold_suits.result
    (c.line_missed.ensures ∙ ap (line_missed write) (c.as_ref.ensures.value ∙ c.in-None.is)) c.if-line_missed-line.false
    (c.hold_suits.ensures ∙ ap (λ access. hold_suits access c.args.hold) (c.as_ref-else-line_missed-line.ensures.value ∙ c.in-None.is)) c.if-not-hold_suits.false)
    (c.self-2.view_is ∙ c.in_ok-make_room.ensures.tile) c.in_ok-make_room.ensures.told c.place.ensures.cache c.end_byte.ensures.tile c.end_byte.ensures.action
