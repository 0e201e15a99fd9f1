use Rattle.std.proofs.Common.{◌≤◌, length}
use Rattle.seq_driver.specs.Inner.{IsUnderWay, IsDrawing}
use Rattle.seq_driver.proofs.driver.run_alone.Given as goal

-- the run is under way, its events at least as many as the turns, and the stream drew them
abbrev pub invariant-loop-turn : goal.invariant-loop-turn
invariant-loop-turn l = record {
  under_way : IsUnderWay l.world l.core l.journal;
  drawing : IsDrawing l.world l.stream l.journal;
  turns : l._turn ≤ length l.journal;
}
