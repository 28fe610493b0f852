-- What a network means, and the laws that every network keeps.
use Rattle.std.specs.Prelude.{ℕ, ◌+◌, ◌*◌, ◌<◌, ◌≤◌, cond, ◌||◌, List, [], ◌∷◌, length, ℤ, pos, sum_by, ◌==◌, slice_index_or, unsigned_abs}
use Rattle.std.specs.List.{AllByRecursion}
use Rattle.network.specs.Limits.{max_nodes, max_arcs, max_node, max_reach}
use Rattle.network.specs.Roads.{Ranged, Passable}
use Rattle.network.specs.declared.road.Road.{Road}
use Rattle.network.specs.declared.size.Size.{Size}

-- a stock for each node, a road for each arc, and two fixed costs
pub record Net : Type 0 where
  pub stocks : List ℤ
  pub roads : List Road
  pub fixed : ℤ × ℤ

abbrev pub node_count : Net → ℕ
node_count n = length n.stocks

abbrev pub arc_count : Net → ℕ
arc_count n = length n.roads

abbrev pub size_of : Net → Size
size_of n = record { nodes = node_count n; arcs = arc_count n; fixed = n.fixed }

-- the most of a road that touches the node
abbrev pub touch : ℕ → Road → ℕ
touch v r = cond (r.tail == v || r.head == v) r.most 0

-- the mosts of the arcs that touch the node
abbrev pub touching : ℕ → List Road → ℕ
touching v roads = sum_by (touch v) roads

-- a road's most times the distance of its cost from zero
abbrev pub span : (Road → ℤ) → Road → ℕ
span cost r = r.most * unsigned_abs (cost r)

-- the same of all the roads
abbrev pub reach_of : (Road → ℤ) → List Road → ℕ
reach_of cost roads = sum_by (span cost) roads

pub record Lawful (n : Net) : Type 0 where
  pub some : 0 < node_count n
  pub nodes : node_count n ≤ max_nodes
  pub arcs : arc_count n ≤ max_arcs
  pub ranged : AllByRecursion (Ranged (node_count n)) n.roads
  pub passable : AllByRecursion Passable n.roads
  pub node : (v : ℕ) → v < node_count n → unsigned_abs (slice_index_or n.stocks v (pos 0)) + touching v n.roads ≤ max_node
  pub first : unsigned_abs n.fixed.0 + reach_of (λ r. r.first) n.roads ≤ max_reach
  pub second : unsigned_abs n.fixed.1 + reach_of (λ r. r.second) n.roads ≤ max_reach

-- one node without chests, no arcs
abbrev pub blank : Net
blank = record { stocks = pos 0 ∷ []; roads = []; fixed = (pos 0, pos 0) }

-- what rows of roads and stocks mean: no fixed costs
abbrev pub rows_net : List Road → List ℤ → Net
rows_net roads stocks = record { stocks = stocks; roads = roads; fixed = (pos 0, pos 0) }
