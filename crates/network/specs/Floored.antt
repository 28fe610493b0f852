-- The network with every least taken away beforehand: the least chests have gone their way.
use Rattle.std.specs.Prelude.{ℕ, suc, ◌-◌, cond, List, [], ◌∷◌, map, ℤ, pos, ◌+ℤ◌, ◌-ℤ◌, ◌*ℤ◌, sum_by, ◌==◌}
use Rattle.network.specs.Net.{Net}
use Rattle.network.specs.Roads.{with_bounds}
use Rattle.network.specs.declared.road.Road.{Road}

abbrev pub lowered : Road → Road
lowered r = with_bounds r 0 (r.most - r.least)

-- the leasts of the arcs that leave a node, and of those that arrive there
abbrev pub leaving : ℕ → List Road → ℕ
leaving v roads = sum_by (λ r. cond (r.tail == v) r.least 0) roads

abbrev pub arriving : ℕ → List Road → ℕ
arriving v roads = sum_by (λ r. cond (r.head == v) r.least 0) roads

-- what is left of a node's stock
abbrev pub stock_left : List Road → ℕ → ℤ → ℤ
stock_left roads v b = (b -ℤ pos (leaving v roads)) +ℤ pos (arriving v roads)

-- the same of all nodes from v on
abbrev pub stocks_left : List Road → ℕ → List ℤ → List ℤ
stocks_left roads v [] = []
stocks_left roads v (b ∷ bs) = stock_left roads v b ∷ stocks_left roads (suc v) bs

-- what the leasts cost
abbrev pub least_cost : (Road → ℤ) → List Road → ℤ
least_cost cost [] = pos 0
least_cost cost (r ∷ rs) = (pos r.least *ℤ cost r) +ℤ least_cost cost rs

abbrev pub floored : Net → Net
floored n = record {
  stocks = stocks_left n.roads 0 n.stocks;
  roads = map lowered n.roads;
  fixed = (n.fixed.0 +ℤ least_cost (λ r. r.first) n.roads, n.fixed.1 +ℤ least_cost (λ r. r.second) n.roads);
}
