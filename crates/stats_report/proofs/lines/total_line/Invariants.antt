use Rattle.std.proofs.Common.{◌≡◌, take}
use Rattle.stats_report.specs.Text.{total_of}
use Rattle.stats_report.proofs.lines.total_line.Given as goal

-- the sums over the tiles so far
abbrev pub invariant-loop-tile : goal.invariant-loop-tile
invariant-loop-tile l = record {
  instr : l.instr ≡ total_of (λ c. c.instr) (take l.tile-index l.counts);
  hits : l.hits ≡ total_of (λ c. c.hits) (take l.tile-index l.counts);
  misses : l.misses ≡ total_of (λ c. c.misses) (take l.tile-index l.counts);
}
