-- The row with its delay is the request taken up.
use Rattle.std.proofs.Common.{ap, ◌∙◌}
use Rattle.mesh_model.specs.Cost.{delay_of}
use Rattle.dir_slice.specs.Line.{Home}
use Rattle.dir_slice.specs.Inner.{state_of}
use Rattle.dir_slice.proofs.Nodes.{served_within}
use Rattle.dir_slice.proofs.Settling.{mail_taken_up}
use Rattle.dir_slice.proofs.home.Home.take_up.Goals as goal

pub farthest-remote-requires-clause-within : goal.farthest-remote-requires-clause-within
farthest-remote-requires-clause-within c =
    let in_range = rw (← c.self.view_is) at c.requires.within in
    served_within c.args.site.config.now.tiles (state_of c.self.inside.state) (state_of c.serve-sends.new.self) c.serve-sends.result c.args.request.want c.args.request.from in_range.state
    c.requires.from_in_range c.serve-sends.ensures

pub returns-clause-mail : goal.returns-clause-mail
returns-clause-mail c =
    let site = c.args.site in
    let h : Home = record { state = state_of c.self.inside.state; memory = c.self.inside.memory; waiting = c.self.inside.waiting.items; delay = c.self.inside.delay } in
    let delay = c.delay-self-inside.ensures ∙ ap (λ q. delay_of site.config.now q.from site.tile c.farthest-remote.result) c.request.view_is
    ∙ ap (delay_of site.config.now c.args.request.from site.tile) c.farthest-remote.ensures in
    rw (← c.self.view_is)
    (mail_taken_up site.config.now site.tile site.line h c.args.request (state_of c.serve-sends.new.self) c.serve-sends.result c.delay-self-inside.result c.send.result c.args.out.now.items
    c.send.new.out.items c.serve-sends.ensures delay c.send.ensures)
