-- The lines of a report. This simulator's own.
use Rattle.std.specs.Prelude.{ℕ, ◌+◌, ◌-◌, ◌==◌, ◌&&◌, Bool, false, not, List, [], ◌∷◌, ◌++◌, length, map, sum, replicate, slice_index, if◌then◌else◌, codes, decimal}
use Rattle.std.specs.Fmt.{digits}
use Rattle.sim_base.specs.declared.ends.Cause.{Cause}
use Rattle.sim_base.specs.Names.{cause_name}
use Rattle.sim_base.specs.declared.ends.End.{End}
use Rattle.sim_base.specs.declared.ends.End.TheVariants.{Exit, Trap, Deadlock, Budget}
use Rattle.sim_base.specs.Saturated.{saturated}
use Rattle.tile_node.specs.declared.tile.TileCounts.{TileCounts}

-- a line ends in a newline (10)
abbrev pub line : List ℕ → List ℕ
line bytes = bytes ++ 10 ∷ []

-- whether an output ends amid a line: it isn't empty, and its last byte is no newline
abbrev pub ends_amid_line : List ℕ → Bool
ends_amid_line output = not (length output == 0) && not (slice_index output (length output - 1) == 10)

-- the output, with the newline that its last line lacks
abbrev pub whole_lines : List ℕ → List ℕ
whole_lines output = if ends_amid_line output then line output else output

-- the digits of a number to the base 16, with zeros in front of them where they are fewer than 16
unfoldable pub hex_digits : ℕ → List ℕ
hex_digits n = replicate (16 - length (digits 16 false n)) 48 ++ digits 16 false n

-- what a trap is told by: its thread, its cause and its address
abbrev pub trap_text : ℕ → Cause → ℕ → List ℕ
trap_text thread cause pc = codes "trap thread " ++ decimal thread ++ codes " " ++ cause_name cause ++ codes " at 0x" ++ hex_digits pc

-- how a run ended
abbrev pub end_text : End → List ℕ
end_text (Exit code) = codes "end: exit " ++ decimal code
end_text (Trap thread cause pc) = codes "end: " ++ trap_text thread cause pc
end_text Deadlock = codes "end: deadlock"
end_text Budget = codes "end: budget"

-- how many instructions committed, and how many accesses hit and missed
abbrev pub counted_text : ℕ → ℕ → ℕ → List ℕ
counted_text instr hits misses = codes "instr " ++ decimal instr ++ codes " hits " ++ decimal hits ++ codes " misses " ++ decimal misses

-- what a tile has counted
abbrev pub tile_text : ℕ → TileCounts → List ℕ
tile_text tile counts =
    codes "tile " ++ decimal tile ++ codes ": clock " ++ decimal counts.clock ++ codes " " ++ counted_text counts.instr counts.hits counts.misses

-- a line for each tile, from the one of this number on
abbrev pub tile_lines : ℕ → List TileCounts → List ℕ
tile_lines first [] = []
tile_lines first (counts ∷ rest) = line (tile_text first counts) ++ tile_lines (first + 1) rest

-- the sums over all tiles; each stops at 2 ^ 64 - 1
abbrev pub total_of : (TileCounts → ℕ) → List TileCounts → ℕ
total_of part counts = saturated (sum (map part counts))

abbrev pub total_text : List TileCounts → List ℕ
total_text counts = codes "total: "
    ++ counted_text (total_of (λ c. c.instr) counts) (total_of (λ c. c.hits) counts) (total_of (λ c. c.misses) counts)

-- the text of a run: the program's output in whole lines, and the report, which says how it ended, after how many events,
-- and what each tile and all of them have counted
abbrev pub run_text : List ℕ → End → ℕ → List TileCounts → List ℕ
run_text output end events counts =
    whole_lines output
    ++ line (codes "== tilesim ==")
    ++ line (end_text end)
    ++ line (codes "events: " ++ decimal events)
    ++ tile_lines 0 counts
    ++ line (total_text counts)
