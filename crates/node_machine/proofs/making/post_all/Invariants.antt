use Rattle.std.proofs.Common.{◌≡◌, length}
use Rattle.std.specs.Prelude.{All}
use Rattle.node_machine.specs.Pending.{AreInboxes}
use Rattle.node_machine.specs.Core.{with_envelopes}
use Rattle.node_machine.specs.Inner.{AreBelow}
use Rattle.node_machine.proofs.making.post_all.Given as goal

-- the messages so far have joined the lists: those that are left make what all of them make
abbrev pub invariant-loop-from : goal.invariant-loop-from
invariant-loop-from l = record {
  posted : with_envelopes l.from-iterator.rest.items l.pending.inboxes ≡ with_envelopes l.fn.waiting.items l.initial.pending.inboxes;
  steps : l.pending.steps ≡ l.initial.pending.steps;
  count : length l.pending.inboxes ≡ length l.initial.pending.inboxes;
  inboxes : AreInboxes (length l.initial.pending.inboxes) l.pending.inboxes;
  senders : All (AreBelow (length l.initial.pending.inboxes)) l.from-iterator.rest.items;
}
