-- One more request waits, or it is taken up.
use Rattle.dir_slice.specs.Line.{Home}
use Rattle.dir_slice.specs.Inner.{state_of}
use Rattle.dir_slice.proofs.Nodes.{more_within, taken_up_within}
use Rattle.dir_slice.proofs.home.Home.request.Goals as goal

pub returns-then-not-is_busy-clause-within : goal.returns-then-not-is_busy-clause-within
returns-then-not-is_busy-clause-within c =
    rw c.take_up.ensures.home (taken_up_within c.args.site.config.now c.args.site.tile c.args.site.line c.args.self.now c.args.request c.requires.within c.requires.from_in_range)

pub returns-clause-within : goal.returns-clause-within
returns-clause-within c =
    let h : Home = record { state = state_of c.self.inside.state; memory = c.self.inside.memory; waiting = c.self.inside.waiting.items; delay = c.self.inside.delay } in
    more_within c.args.site.config.now.tiles h c.args.request c.push_back.new.self.items (rw c.self.view_is c.requires.within) c.requires.from_in_range c.in_ok-push_back.ensures.items
