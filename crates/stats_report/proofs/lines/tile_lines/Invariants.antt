use Rattle.std.proofs.Common.{◌≡◌, ◌++◌, drop, string_bytes}
use Rattle.stats_report.specs.Text.{tile_lines}
use Rattle.stats_report.proofs.lines.tile_lines.Given as goal

-- the lines so far, and those of the tiles that are left, are all lines
abbrev pub invariant-loop-tile : goal.invariant-loop-tile
invariant-loop-tile l = string_bytes l.text ++ tile_lines l.tile (drop l.tile l.counts) ≡ tile_lines 0 l.counts
