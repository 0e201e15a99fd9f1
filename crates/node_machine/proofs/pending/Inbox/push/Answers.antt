use Rattle.std.proofs.Common.{◌<◌, ◌++◌, ◌∷◌, [], length, ap, ◌∙◌, arith}
use Rattle.std.proofs.lemmas.List.FromFn.{length-map-range_with_len}
use Rattle.node_machine.specs.Pending.{queue_from, with_queue_from}
use Rattle.node_machine.specs.Mailbox.{messages_from, lists_from}
use Rattle.node_machine.proofs.MailboxLemmas.{pushed_lists, pushed_mailbox}
use Rattle.node_machine.proofs.pending.Inbox.push.Goals as goal

pub invariant_of-self-2 : goal.invariant_of-self-2
invariant_of-self-2 c =
    let count = c.self.inside.count in
    let mail = c.self.inside.mail.items in
    let sender : c.args.from < count = omega (arith, c.requires, ap length c.self.view_is, length-map-range_with_len (messages_from mail) 0 count) in
    rw (c.in_ok-push.ensures.items, c.insert.ensures.nodes) (pushed_mailbox count mail c.self.inside.senders (record { from = c.args.from; msg = c.args.msg }) sender c.self.invariant)

pub returns-clause-ok : goal.returns-clause-ok
returns-clause-ok c =
    let count = c.self.inside.count in
    let mail = c.self.inside.mail.items in
    ap (λ now. lists_from now count) c.in_ok-push.ensures.items
    ∙ pushed_lists count mail (record { from = c.args.from; msg = c.args.msg }) c.self.invariant.known
    ∙ ap (λ inbox. with_queue_from inbox c.args.from (queue_from inbox c.args.from ++ c.args.msg ∷ [])) c.self.view_is
