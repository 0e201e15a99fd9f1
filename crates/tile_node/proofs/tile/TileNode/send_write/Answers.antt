-- The call has the bytes of the write.
use Rattle.std.proofs.Common.{◌≡◌, [], ◌∷◌, ◌++◌, refl, ap, ◌∙◌}
use Rattle.sim_base.specs.Numbering.{control_node}
use Rattle.wire_msg.specs.declared.calls.Call.TheVariants.{Write}
use Rattle.wire_msg.specs.declared.messages.Msg.TheVariants.{Call}
use Rattle.tile_node.proofs.tile.TileNode.send_write.Goals as goal

pub returns : goal.returns
returns c =
    let t = c.args.self.now in
    let bytes : c.in_ok-bytes.bytes ≡ t.core.write.got = c.in_ok-bytes.ensures ∙ ap (λ s. s.core.write.got) c.self-inside.view_is ∙ ap (λ s. s.core.write.got) c.self.view_is in
    (c.in_ok-call.ensures.tile, c.in_ok-call.ensures.sent ∙ ap (λ b. c.args.out.now.items ++ (control_node c.args.world.now.config, Call t.core.thread t.core.clock (Write b)) ∷ []) bytes, refl)
