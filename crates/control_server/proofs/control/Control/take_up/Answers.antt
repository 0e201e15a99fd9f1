-- A futex wait's word is read, and every other request is served.
use Rattle.std.proofs.Common.{sym, ◌∙◌}
use Rattle.control_server.specs.Inner.{asked}
use Rattle.control_server.proofs.Ending.{checked_done, served_done}
use Rattle.control_server.proofs.control.Control.take_up.Goals as goal

pub returns-in-Some : goal.returns-in-Some
returns-in-Some c =
    checked_done c.args.world.now c.args.self.now (asked c.waiting.inside.asker c.waiting.inside.request) c.args.waiting c.in-Some.addr c.in-Some.value c.check.new.self c.args.out.now.items c.check.new.out.items
    c.waiting.view_is (sym c.word_of.ensures ∙ c.in-Some.is) (c.in_ok-check.ensures c.waiting.inside.request)

pub returns : goal.returns
returns c =
    served_done c.args.world.now c.args.self.now (asked c.waiting.inside.asker c.waiting.inside.request) c.args.waiting c.serve.new.self c.args.out.now.items c.serve.new.out.items
    c.waiting.view_is (sym c.word_of.ensures ∙ c.in_default.is) c.in_ok-serve.ensures
