use Rattle.std.proofs.Common.{◌≡◌, ◌+◌, [], Some, None, drop, sym, ap, ◌∙◌, add-one, if◌then◌else◌}
use Rattle.std.specs.Prelude.{position, is_some}
use Rattle.std.proofs.lemmas.List.{set-get_or, take_rest}
use Rattle.node_set.specs.NodeSet.{without}
use Rattle.node_machine.specs.Pending.{queue_from, with_queue_from, first_of, rest_of}
use Rattle.node_machine.specs.Mailbox.{is_from}
use Rattle.node_machine.proofs.MailboxLemmas.{absent_list, taken_message, taken_lists, taken_mailbox}
use Rattle.node_machine.proofs.pending.Inbox.pop.Goals as goal

-- where no message of the sender waits
none : (c : goal.After-from_residual) → queue_from c.args.self.now c.args.from ≡ []
none c =
    let absent : None ≡ position (is_from c.args.from) c.self.inside.mail.items = c.in_err-place.ensures ∙ ap (position (is_from c.args.from)) c.deref.ensures.value in
    ap (λ inbox. queue_from inbox c.args.from) (sym c.self.view_is) ∙ absent_list c.self.inside.count c.self.inside.mail.items c.args.from c.self.invariant.known absent

pub returns-in_err-place-clause-message : goal.returns-in_err-place-clause-message
returns-in_err-place-clause-message c = c.from_residual.ensures ∙ ap first_of (sym (none c))

pub returns-in_err-place-clause-rest : goal.returns-in_err-place-clause-rest
returns-in_err-place-clause-rest c =
    sym (ap (λ queue. with_queue_from c.args.self.now c.args.from (rest_of queue)) (none c) ∙ ap (with_queue_from c.args.self.now c.args.from) (sym (none c)) ∙ set-get_or c.args.self.now c.args.from [])

-- where the sender's first message stands
stands : (c : goal.After-take_at) → Some c.in_ok-place.place ≡ position (is_from c.args.from) c.self.inside.mail.items
stands c = c.in_ok-place.ensures ∙ ap (position (is_from c.args.from)) c.deref.ensures.value

pub invariant_of-self : goal.invariant_of-self
invariant_of-self c =
    let count = c.self.inside.count in
    let mail = c.self.inside.mail.items in
    let senders = c.self.inside.senders in
    let place = c.in_ok-place.place in
    let behind = take_rest c.deref-2.result.now (place + 1) ∙ ap (drop (place + 1)) c.deref-2.ensures.value ∙ ap (λ n. drop n mail) (add-one place) in
    let left = c.leave_unless.ensures ∙ ap (λ rest. if is_some (position (is_from c.args.from) rest) then senders else without c.args.from senders) behind in
    rw left (taken_mailbox count mail c.take_at.new.mail.items c.args.from place (stands c) c.take_at.ensures.rest senders c.self.invariant)

pub returns-clause-message : goal.returns-clause-message
returns-clause-message c =
    c.take_at.ensures.message
    ∙ taken_message c.self.inside.count c.self.inside.mail.items c.take_at.new.mail.items c.args.from c.in_ok-place.place (stands c) c.take_at.ensures.rest c.self.invariant.known
    ∙ ap (λ inbox. first_of (queue_from inbox c.args.from)) c.self.view_is

pub returns-clause-rest : goal.returns-clause-rest
returns-clause-rest c =
    taken_lists c.self.inside.count c.self.inside.mail.items c.take_at.new.mail.items c.args.from c.in_ok-place.place (stands c) c.take_at.ensures.rest c.self.invariant.known
    ∙ ap (λ inbox. with_queue_from inbox c.args.from (rest_of (queue_from inbox c.args.from))) c.self.view_is
