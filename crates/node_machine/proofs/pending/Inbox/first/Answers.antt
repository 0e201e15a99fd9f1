-- The message stands at the sender's first place.
use Rattle.std.proofs.Common.{◌≡◌, ◌<◌, [], Some, None, length, refl, sym, ap, ◌∙◌, rules}
use Rattle.std.specs.Prelude.{position, remove, slice_get}
use Rattle.std.specs.Option.{option_copied, option_map}
use Rattle.std.proofs.lemmas.Option.{slice_get-get_or}
use Rattle.node_machine.specs.Pending.{queue_from, first_of}
use Rattle.node_machine.specs.Mailbox.{is_from}
use Rattle.node_machine.specs.declared.pending.Mail.{Mail}
use Rattle.node_machine.proofs.MailboxLemmas.{absent_list, taken_message}
use Rattle.node_machine.proofs.pending.Inbox.first.Goals as goal

pub returns-in_err-place : goal.returns-in_err-place
returns-in_err-place c =
    let absent : None ≡ position (is_from c.args.from) c.self.inside.mail.items = c.in_err-place.ensures ∙ ap (position (is_from c.args.from)) c.deref.ensures.value in
    let none : queue_from c.args.self.now c.args.from ≡ [] =
    ap (λ inbox. queue_from inbox c.args.from) (sym c.self.view_is) ∙ absent_list c.self.inside.count c.self.inside.mail.items c.args.from c.self.invariant.known absent in
    ap option_copied c.from_residual.ensures ∙ ap first_of (sym none)

pub returns : goal.returns
returns c =
    let mail = c.self.inside.mail.items in
    let place = c.in_ok-place.place in
    let stands : Some place ≡ position (is_from c.args.from) mail = c.in_ok-place.ensures ∙ ap (position (is_from c.args.from)) c.deref.ensures.value in
    let within : place < length mail = search rules in
    let at : slice_get mail place ≡ Some c.index.result.now = slice_get-get_or mail place c.index.result.now within ∙ ap Some (sym c.index.ensures) in
    sym (ap (option_map (λ (one : Mail). one.msg)) at)
    ∙ taken_message c.self.inside.count mail (remove mail place) c.args.from place stands refl c.self.invariant.known
    ∙ ap (λ inbox. first_of (queue_from inbox c.args.from)) c.self.view_is
