-- Where the nodes stand and how far apart they are. The tiles fill a square mesh row by row, as in Graphite
-- (HPCA 2010); a message goes along a row and along a column.
use Rattle.std.specs.Prelude.{ℕ, ◌+◌, ◌-◌, ◌*◌, ◌/◌, ◌%◌, nat_le, find, unwrap_or}
use Rattle.std.specs.List.{range_with_len}
use Rattle.sim_base.specs.declared.settings.Config.{Config}
use Rattle.sim_base.specs.Numbering.{place_of}

-- the side of the mesh: the first of 0, 1, 2 and so on whose square has room for all tiles
unfoldable pub side : Config → ℕ
side c = unwrap_or (find (λ w. nat_le c.tiles (w * w)) (range_with_len 0 (c.tiles + 1))) 0

-- the column and the row of a node: those of the tile at whose place it stands
abbrev pub column : Config → ℕ → ℕ
column c node = place_of c node % side c

abbrev pub row : Config → ℕ → ℕ
row c node = place_of c node / side c

-- how far apart two numbers are
abbrev pub apart : ℕ → ℕ → ℕ
apart a b = (a - b) + (b - a)

-- the hops between two nodes: along the row, and along the column
abbrev pub hops_between : Config → ℕ → ℕ → ℕ
hops_between c a b = apart (column c a) (column c b) + apart (row c a) (row c b)

-- the hops from corner to corner, than which no two nodes are farther apart
abbrev pub diameter : Config → ℕ
diameter c = 2 * (side c - 1)
