-- The exit is served, and the thread isn't active any more.
use Rattle.std.proofs.Common.{ap, sym, ◌∙◌, refl}
use Rattle.sim_base.specs.Numbering.{host_of}
use Rattle.serving.specs.Serving.{end_of_exit}
use Rattle.control_server.proofs.Served.{exit_made}
use Rattle.control_server.proofs.control.Control.exit.Goals as goal

pub returns : goal.returns
returns c =
    exit_made c.args.world.now c.args.self.now c.args.asker c.args.code c.host_of.result _ _ _ _ c.leave.new.self c.exit-joiner.new.self c.exit-joiner.result c.end_of_exit-self-inside.result
    c.args.out.now.items c.wake_joiner.new.out.items c.leave.new.out.items
    c.requires.active (c.host_of.ensures.host ∙ ap (λ s. host_of s c.args.asker.from) c.config.ensures.value) (c.self.view_is ∙ c.free_tile.ensures) c.exit-joiner.ensures.fates c.exit-joiner.ensures.joiner refl
    (c.self-2.view_is ∙ c.in_ok-wake_joiner.ensures.control) c.in_ok-wake_joiner.ensures.mail (c.end_of_exit-self-inside.ensures ∙ ap (λ s. end_of_exit s.control.fates c.args.code) (sym c.self-2.view_is)) refl c.in_ok-leave.ensures
