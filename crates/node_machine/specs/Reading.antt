-- What is read of a node. A node of another kind has counted nothing, holds no line, has no output and no end.
use Rattle.std.specs.Prelude.{ℕ, List, [], Option, None}
use Rattle.sim_base.specs.declared.ends.End.{End}
use Rattle.tile_cache.specs.declared.ways.Hold.{Hold}
use Rattle.tile_cache.specs.Cache.{hold_of}
use Rattle.tile_node.specs.declared.tile.TileCounts.{TileCounts}
use Rattle.tile_node.specs.Tile.{counts_of}
use Rattle.node_machine.specs.declared.nodes.Node.{Node}
use Rattle.node_machine.specs.declared.nodes.Node.TheVariants.{Tile, Control}

-- what a tile has counted, and its clock
abbrev pub none_counted : TileCounts
none_counted = record { clock = 0; instr = 0; hits = 0; misses = 0 }

abbrev pub counts_of_node : Node → TileCounts
counts_of_node (Tile tile) = counts_of tile
counts_of_node _ = none_counted

-- how a tile's cache holds a line
abbrev pub hold_of_node : Node → ℕ → Option Hold
hold_of_node (Tile tile) line = hold_of tile.cache line
hold_of_node _ line = None

-- what the program has output, and how it ended, as the control server says
abbrev pub output_of_node : Node → List ℕ
output_of_node (Control control) = control.control.output
output_of_node _ = []

abbrev pub ended_of_node : Node → Option End
ended_of_node (Control control) = control.control.ended
ended_of_node _ = None
