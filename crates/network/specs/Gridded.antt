-- The network of a grid: rows and columns of nodes, with an arc from each node to the next on its right and to the next below.
use Rattle.std.specs.Prelude.{ℕ, ◌+◌, ◌-◌, ◌*◌, ◌/◌, ◌%◌, ◌≤◌, cond, map, ℤ, pos, ◌-ℤ◌, ◌==◌, nat_lt}
use Rattle.std.specs.List.{range_with_len}
use Rattle.network.specs.Limits.{max_side}
use Rattle.network.specs.Net.{Net}
use Rattle.network.specs.declared.road.Road.{Road}

-- how many rows or columns there may be
abbrev pub Side : ℕ → Type 0
Side n = (1 ≤ n) × (n ≤ max_side)

-- the node of a row and a column, where a row has so many columns
abbrev pub node_at : ℕ → ℕ → ℕ → ℕ
node_at columns row column = row * columns + column

-- a road from the node of a row and a column, between these nodes
abbrev pub grid_road : ℕ → ℕ → ℕ → ℕ → Road
grid_road row column tail head = record {
  tail = tail;
  head = head;
  least = 0;
  most = 1 + (row + 2 * column) % 5;
  first = pos ((3 * row + column) % 7);
  second = pos ((5 * row + 2 * column) % 7) -ℤ pos 3;
}

-- the road to the right from a row and a column, and the road down
abbrev pub right_from : ℕ → ℕ → ℕ → Road
right_from columns row column = grid_road row column (node_at columns row column) (node_at columns row (column + 1))

abbrev pub down_from : ℕ → ℕ → ℕ → Road
down_from columns row column = grid_road row column (node_at columns row column) (node_at columns (row + 1) column)

-- how many arcs go to the right, how many down, and how many there are
abbrev pub right_count : ℕ → ℕ → ℕ
right_count rows columns = rows * (columns - 1)

abbrev pub down_count : ℕ → ℕ → ℕ
down_count rows columns = (rows - 1) * columns

abbrev pub grid_arcs : ℕ → ℕ → ℕ
grid_arcs rows columns = right_count rows columns + down_count rows columns

-- the roads to the right row by row, and the roads down row by row
abbrev pub right_road : ℕ → ℕ → Road
right_road columns i = right_from columns (i / (columns - 1)) (i % (columns - 1))

abbrev pub down_road : ℕ → ℕ → Road
down_road columns i = down_from columns (i / columns) (i % columns)

-- the road of an arc: those to the right come first
abbrev pub grid_arc : ℕ → ℕ → ℕ → Road
grid_arc rows columns i = cond (nat_lt i (right_count rows columns)) (right_road columns i) (down_road columns (i - right_count rows columns))

-- the first node offers the chests, and the last of so many nodes wants them
abbrev pub offered : ℕ → ℕ → ℕ
offered chests v = cond (v == 0) chests 0

abbrev pub wanted : ℕ → ℕ → ℕ → ℕ
wanted nodes chests v = cond (v + 1 == nodes) chests 0

abbrev pub grid_stock : ℕ → ℕ → ℕ → ℤ
grid_stock nodes chests v = pos (offered chests v) -ℤ pos (wanted nodes chests v)

abbrev pub gridded : ℕ → ℕ → ℕ → Net
gridded rows columns chests = record {
  stocks = map (grid_stock (rows * columns) chests) (range_with_len 0 (rows * columns));
  roads = map (grid_arc rows columns) (range_with_len 0 (grid_arcs rows columns));
  fixed = (pos 0, pos 0);
}
