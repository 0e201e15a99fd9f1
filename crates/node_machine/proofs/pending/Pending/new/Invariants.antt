use Rattle.std.proofs.Common.{◌≡◌, replicate, [], false}
use Rattle.node_machine.proofs.pending.Pending.new.Given as goal

abbrev pub invariant-loop : goal.invariant-loop
invariant-loop l = (l.inboxes.items ≡ replicate l.counter (replicate l.count [])) × (l.steps.items ≡ replicate l.counter false)
