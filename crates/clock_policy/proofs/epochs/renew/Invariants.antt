use Rattle.std.proofs.Common.{◌≡◌, ◌++◌, map, take, drop}
use Rattle.clock_policy.specs.Members.{renewed}
use Rattle.clock_policy.proofs.epochs.renew.Given as goal

abbrev pub invariant-loop-member : goal.invariant-loop-member
invariant-loop-member l =
    l.member-items ≡ map renewed (take l.member-index l.fn.members.items) ++ drop l.member-index l.fn.members.items
