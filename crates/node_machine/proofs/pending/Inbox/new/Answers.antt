use Rattle.std.proofs.Common.{ap, ◌∙◌}
use Rattle.node_machine.specs.Mailbox.{lists_from}
use Rattle.node_machine.proofs.MailboxLemmas.{empty_mailbox, lists_none}
use Rattle.node_machine.proofs.pending.Inbox.new.Goals as goal

pub invariant_of-result : goal.invariant_of-result
invariant_of-result c = rw (c.new-mail.ensures.items, c.new-senders.ensures) (empty_mailbox c.args.count)

pub returns : goal.returns
returns c = ap (λ mail. lists_from mail c.args.count) c.new-mail.ensures.items ∙ lists_none c.args.count
