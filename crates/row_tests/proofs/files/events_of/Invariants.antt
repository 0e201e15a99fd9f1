use Rattle.std.proofs.Common.{length}
use Rattle.row_tests.proofs.files.events_of.Given as goal

abbrev pub decreases-loop-event : goal.decreases-loop-event
decreases-loop-event l = length l.left
