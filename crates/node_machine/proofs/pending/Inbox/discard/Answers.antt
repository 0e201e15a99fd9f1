-- As `pop`, without the message.
use Rattle.std.proofs.Common.{◌≡◌, ◌+◌, [], Some, None, drop, sym, ap, ◌∙◌, add-one, if◌then◌else◌}
use Rattle.std.specs.Prelude.{position, is_some}
use Rattle.std.proofs.lemmas.List.{set-get_or, take_rest}
use Rattle.node_set.specs.NodeSet.{without}
use Rattle.node_machine.specs.Pending.{queue_from, with_queue_from, rest_of}
use Rattle.node_machine.specs.Mailbox.{is_from}
use Rattle.node_machine.proofs.MailboxLemmas.{absent_list, taken_lists, taken_mailbox}
use Rattle.node_machine.proofs.pending.Inbox.discard.Goals as goal

-- where the sender's first message stands
stands : (c : goal.After-drop_at) → Some c.in-Some.place ≡ position (is_from c.args.from) c.self.inside.mail.items
stands c = c.in-Some.ensures ∙ ap (position (is_from c.args.from)) c.deref.ensures.value

pub invariant_of-self : goal.invariant_of-self
invariant_of-self c =
    let count = c.self.inside.count in
    let mail = c.self.inside.mail.items in
    let senders = c.self.inside.senders in
    let place = c.in-Some.place in
    let behind = take_rest c.deref-in-Some.result.now (place + 1) ∙ ap (drop (place + 1)) c.deref-in-Some.ensures.value ∙ ap (λ n. drop n mail) (add-one place) in
    let left = c.leave_unless.ensures ∙ ap (λ rest. if is_some (position (is_from c.args.from) rest) then senders else without c.args.from senders) behind in
    rw left (taken_mailbox count mail c.drop_at.new.mail.items c.args.from place (stands c) c.drop_at.ensures senders c.self.invariant)

pub returns-in-Some : goal.returns-in-Some
returns-in-Some c =
    taken_lists c.self.inside.count c.self.inside.mail.items c.drop_at.new.mail.items c.args.from c.in-Some.place (stands c) c.drop_at.ensures c.self.invariant.known
    ∙ ap (λ inbox. with_queue_from inbox c.args.from (rest_of (queue_from inbox c.args.from))) c.self.view_is

pub returns-in-None : goal.returns-in-None
returns-in-None c =
    let absent : None ≡ position (is_from c.args.from) c.self.inside.mail.items = c.in-None.ensures ∙ ap (position (is_from c.args.from)) c.deref.ensures.value in
    let none : queue_from c.args.self.now c.args.from ≡ [] =
    ap (λ inbox. queue_from inbox c.args.from) (sym c.self.view_is) ∙ absent_list c.self.inside.count c.self.inside.mail.items c.args.from c.self.invariant.known absent in
    sym (ap (λ queue. with_queue_from c.args.self.now c.args.from (rest_of queue)) none ∙ ap (with_queue_from c.args.self.now c.args.from) (sym none) ∙ set-get_or c.args.self.now c.args.from [])
