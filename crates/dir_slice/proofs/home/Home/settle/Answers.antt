-- One after the other is taken up.
use Rattle.std.proofs.Common.{ap, sym, ◌∙◌}
use Rattle.dir_slice.specs.Line.{Home, is_busy}
use Rattle.dir_slice.specs.Inner.{state_of}
use Rattle.dir_slice.proofs.Nodes.{later_within, made_within}
use Rattle.dir_slice.proofs.Settling.{one_taken_up, none_left_busy}
use Rattle.dir_slice.proofs.home.Home.settle.Goals as goal

pub take_up-requires-clause-within : goal.take_up-requires-clause-within
take_up-requires-clause-within c =
    let h : Home = record { state = state_of c.self.inside.state; memory = c.self.inside.memory; waiting = c.self.inside.waiting.items; delay = c.self.inside.delay } in
    later_within c.args.site.config.now.tiles h c.in-Some.request c.pop_front.new.self.items (rw c.self.view_is c.requests.invariant.within) c.in-Some.ensures.items

pub requests-preserved : goal.requests-preserved
requests-preserved c =
    let site = c.args.site in
    let h : Home = record { state = state_of c.self.inside.state; memory = c.self.inside.memory; waiting = c.self.inside.waiting.items; delay = c.self.inside.delay } in
    let in_range = rw (← c.self.view_is) at c.requests.invariant.within in
    let left = rw (← c.self.view_is) at c.requests.invariant.left in
    record {
      within = made_within site.config.now site.tile site.line h c.in-Some.request c.pop_front.new.self.items c.take_up.new.self in_range c.in-Some.ensures.items c.take_up.ensures.home;
      left = one_taken_up site.config.now site.tile site.line c.args.self.now c.args.out.now.items h c.requests.out.items c.in-Some.request c.pop_front.new.self.items c.take_up.new.self
          c.take_up.new.out.items left (sym c.requests-test.ensures) c.in-Some.ensures.items (record { home = c.take_up.ensures.home; mail = c.in_ok-take_up.ensures.mail });
    }

pub returns-in_err-take_up-clause-within : goal.returns-in_err-take_up-clause-within
returns-in_err-take_up-clause-within c =
    let site = c.args.site in
    let h : Home = record { state = state_of c.self.inside.state; memory = c.self.inside.memory; waiting = c.self.inside.waiting.items; delay = c.self.inside.delay } in
    made_within site.config.now site.tile site.line h c.in-Some.request c.pop_front.new.self.items c.take_up.new.self (rw (← c.self.view_is) at c.requests.invariant.within) c.in-Some.ensures.items
    c.take_up.ensures.home

pub returns-after-requests-clause-made : goal.returns-after-requests-clause-made
returns-after-requests-clause-made c =
    none_left_busy c.args.site.config.now c.args.site.tile c.args.site.line c.args.self.now c.args.out.now.items c.requests.self c.requests.out.items c.requests.invariant.left
    (ap (λ h. is_busy h.state) (sym c.self.view_is) ∙ sym c.requests-test.ensures)
