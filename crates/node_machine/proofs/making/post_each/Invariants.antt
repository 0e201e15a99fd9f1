use Rattle.std.proofs.Common.{◌≡◌, length}
use Rattle.std.specs.Vec.Iter.{drain_items}
use Rattle.node_machine.specs.Pending.{with_messages, AreInboxes}
use Rattle.node_machine.proofs.making.post_each.Given as goal

-- the messages so far have joined the lists: those that are left make what all of them make
abbrev pub invariant-loop-to : goal.invariant-loop-to
invariant-loop-to l = record {
  posted : with_messages l.from (drain_items l.to-iterator) l.pending.inboxes ≡ with_messages l.from l.fn.out.items l.initial.pending.inboxes;
  steps : l.pending.steps ≡ l.initial.pending.steps;
  count : length l.pending.inboxes ≡ length l.initial.pending.inboxes;
  inboxes : AreInboxes (length l.initial.pending.inboxes) l.pending.inboxes;
}
