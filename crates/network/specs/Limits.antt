-- Every limit of a consignment, once; `src/limits.rt` has the same numbers for the code.
use Rattle.std.specs.Prelude.{ℕ}

-- nodes of a network, from 1
abbrev pub max_nodes : ℕ
max_nodes = 200

-- arcs of a network, from 0
abbrev pub max_arcs : ℕ
max_arcs = 1000

-- distance of a node's stock from zero
abbrev pub max_stock : ℕ
max_stock = 1000000

-- least and most of an arc
abbrev pub max_most : ℕ
max_most = 1000

-- distance of a cost from zero
abbrev pub max_cost : ℕ
max_cost = 1000

-- bytes of a text
abbrev pub max_text : ℕ
max_text = 65536

-- at each node, the stock's distance from zero plus the mosts of the arcs that touch it
abbrev pub max_node : ℕ
max_node = 2000000

-- for each cost, the fixed cost's distance from zero plus the sum of most × the cost's distance from zero
abbrev pub max_reach : ℕ
max_reach = 1000000000

-- rows and columns of a grid, from 1
abbrev pub max_side : ℕ
max_side = 14

-- chests of a grid, from 0
abbrev pub max_grid_chests : ℕ
max_grid_chests = 1000
