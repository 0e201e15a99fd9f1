use Rattle.std.proofs.Common.{◌≡◌, ◌≤◌}
use Rattle.coherence_laws.specs.Holders.{writer_below, readers_below}
use Rattle.coherence_laws.proofs.reading.holders.Given as goal

-- those of the tiles so far, each of which is a reader at most
abbrev pub invariant-loop-tile : goal.invariant-loop-tile
invariant-loop-tile l =
    (l.found.writer ≡ writer_below l.core l.line l.tile) × (l.found.readers ≡ readers_below l.core l.line l.tile) × (l.found.readers ≤ l.tile)
