-- The events so far are made, and the others are left.
use Rattle.std.proofs.Common.{◌≡◌, length, take, drop}
use Rattle.seq_driver.specs.Inner.{IsUnderWay}
use Rattle.seq_driver.proofs.replays.replay.Given as goal

abbrev pub invariant-loop-event : goal.invariant-loop-event
invariant-loop-event l = record { under : IsUnderWay l.world l.core (take l.index l.fn.journal); left : drop l.index l.fn.journal ≡ l.left }

abbrev pub decreases-loop-event : goal.decreases-loop-event
decreases-loop-event l = length l.left
