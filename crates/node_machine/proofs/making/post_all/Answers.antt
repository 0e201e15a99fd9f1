-- One more message joins its list; those that are left have senders among the nodes still.
use Rattle.std.proofs.Common.{◌≡◌, ◌∷◌, length, subst, rules}
use Rattle.std.specs.Prelude.{All}
use Rattle.std.proofs.lemmas.List.Elements.{All-tail}
use Rattle.node_machine.specs.Inner.{AreBelow}
use Rattle.node_machine.proofs.making.post_all.Goals as goal

pub loop-from-preserved : goal.loop-from-preserved
loop-from-preserved c =
    let items : c.loop-from.from-iterator.rest.items ≡ c.in-Some.field-0 ∷ c.next.new.self.rest.items = search rules in
    let left : All (AreBelow (length c.args.pending.now.inboxes)) (c.in-Some.field-0 ∷ c.next.new.self.rest.items) =
    subst (All (AreBelow (length c.args.pending.now.inboxes))) items c.loop-from.invariant.senders in
    record {
      posted = search rules;
      steps = search rules;
      count = search rules;
      inboxes = search rules;
      senders = All-tail (AreBelow (length c.args.pending.now.inboxes)) c.in-Some.field-0 c.next.new.self.rest.items left;
    }
