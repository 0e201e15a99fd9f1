use Rattle.std.proofs.Common.{◌≡◌, ◌++◌, length}
use Rattle.journal_file.specs.Reading.{events_in}
use Rattle.journal_file.proofs.reading.read_events.Given as goal

abbrev pub invariant-loop-left : goal.invariant-loop-left
invariant-loop-left l = l.events.items ++ events_in l.left ≡ events_in l.bytes

abbrev pub decreases-loop-left : goal.decreases-loop-left
decreases-loop-left l = length l.left
