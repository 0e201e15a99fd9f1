use Rattle.std.proofs.Common.{◌≡◌, ◌≤◌, ◌+◌, ◌++◌, take, length, vec_len}
use Rattle.std.specs.Vec.{vec_capacity}
use Rattle.std.specs.List.{filter_map}
use Rattle.clock_policy.specs.Epoch.{limit_sent}
use Rattle.clock_policy.proofs.epochs.send_limits.Given as goal

abbrev pub invariant-loop-member : goal.invariant-loop-member
invariant-loop-member l =
    (l.out.items ≡ l.fn.out.items ++ filter_map (limit_sent l.limit) (take l.member-index l.members))
    × (vec_len l.out ≤ vec_len l.fn.out + l.member-index)
    × (vec_len l.fn.out + length l.members ≤ vec_capacity l.out)
