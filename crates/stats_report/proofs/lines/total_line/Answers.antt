use Rattle.std.proofs.Common.{◌≡◌, append_assoc, take, arith}
use Rattle.std.proofs.lemmas.Grind.{common_steps}
use Rattle.stats_report.proofs.lines.total_line.Goals as goal

-- all tiles were summed up
pub returns : goal.returns
returns c =
    let all : take c.loop-tile.tile-index c.args.counts.now ≡ c.args.counts.now = grind (arith, common_steps) in
    simp append_assoc (rw (c.loop-tile.invariant.instr, c.loop-tile.invariant.hits, c.loop-tile.invariant.misses, all) at c.in_ok-format.ensures.ok)
