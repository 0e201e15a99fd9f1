use Rattle.std.proofs.Common.{◌≡◌, ◌++◌, map, take, drop}
use Rattle.node_machine.specs.Machine.{can_step}
use Rattle.node_machine.proofs.making.note_steps.Given as goal

-- the nodes so far are noted
abbrev pub invariant-loop-id : goal.invariant-loop-id
invariant-loop-id l = record {
  inboxes : l.pending.inboxes ≡ l.initial.pending.inboxes;
  steps : l.pending.steps ≡ map can_step (take l.id l.nodes) ++ drop l.id l.initial.pending.steps;
}
