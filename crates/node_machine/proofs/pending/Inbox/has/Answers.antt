use Rattle.std.proofs.Common.{ap, ◌∙◌}
use Rattle.std.specs.Prelude.{not}
use Rattle.event_journal.specs.State.{is_empty}
use Rattle.node_set.specs.NodeSet.{has_node}
use Rattle.node_machine.specs.Pending.{queue_from}
use Rattle.node_machine.specs.Mailbox.{lists_from}
use Rattle.node_machine.proofs.MailboxLemmas.{sender_waits}
use Rattle.node_machine.proofs.pending.Inbox.has.Goals as goal

pub returns : goal.returns
returns c =
    c.contains.ensures.has ∙ ap (has_node c.args.from) c.self.invariant.waiting
    ∙ sender_waits (lists_from c.self.inside.mail.items c.self.inside.count) c.args.from
    ∙ ap (λ inbox. not (is_empty (queue_from inbox c.args.from))) c.self.view_is
