use Rattle.std.proofs.Common.{◌≡◌, ◌++◌, map, take, drop}
use Rattle.clock_policy.specs.Members.{with_report}
use Rattle.clock_policy.proofs.epochs.report.Given as goal

abbrev pub invariant-loop-member : goal.invariant-loop-member
invariant-loop-member l =
    l.member-items ≡ map (with_report l.thread l.tile) (take l.member-index l.fn.members.items) ++ drop l.member-index l.fn.members.items
