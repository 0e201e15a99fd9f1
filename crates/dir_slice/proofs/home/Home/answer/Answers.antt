-- The row that the answer leads to names nodes of the machine.
use Rattle.dir_slice.specs.Line.{Home}
use Rattle.dir_slice.specs.Inner.{state_of}
use Rattle.dir_slice.proofs.Nodes.{next_within}
use Rattle.dir_slice.proofs.home.Home.answer.Goals as goal

pub returns-in_err-send-clause-within : goal.returns-in_err-send-clause-within
returns-in_err-send-clause-within c =
    let h : Home = record { state = state_of c.self.inside.state; memory = c.self.inside.memory; waiting = c.self.inside.waiting.items; delay = c.self.inside.delay } in
    next_within c.args.site.config.now.tiles h c.args.from c.args.says.now (state_of c.answered.new.self) c.in-Some.sends c.store.new.memory (rw (← c.self.view_is) at c.requires.within) c.in-Some.ensures

pub settle-requires-clause-within : goal.settle-requires-clause-within
settle-requires-clause-within c =
    let h : Home = record { state = state_of c.self.inside.state; memory = c.self.inside.memory; waiting = c.self.inside.waiting.items; delay = c.self.inside.delay } in
    next_within c.args.site.config.now.tiles h c.args.from c.args.says.now (state_of c.answered.new.self) c.in-Some.sends c.store.new.memory (rw (← c.self.view_is) at c.requires.within) c.in-Some.ensures
