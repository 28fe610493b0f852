-- The three forms: the items that follow bracket, word and space.
use Rattle.std.specs.Prelude.{ℕ, ◌-◌, List, [], ◌∷◌, ◌++◌, ℤ, pos, neg_ℤ}
use Rattle.network.specs.Limits.{max_nodes, max_arcs, max_stock, max_most, max_cost}
use Rattle.network.specs.declared.road.Road.{Road}
use Rattle.forms.specs.Scan.{Item, byte, num}

-- a number of a node
abbrev pub node : ℕ → Item
node nodes = num (pos 0) (pos (nodes - 1))

-- least or most
abbrev pub amount : Item
amount = num (pos 0) (pos max_most)

abbrev pub cost : Item
cost = num (neg_ℤ (pos max_cost)) (pos max_cost)

-- `(a b)`
abbrev pub pair : Item → List Item
pair item = byte 40 ∷ item ∷ byte 32 ∷ item ∷ byte 41 ∷ []

-- `N M)` of `(net N M)`
abbrev pub net_items : List Item
net_items = num (pos 1) (pos max_nodes) ∷ byte 32 ∷ num (pos 0) (pos max_arcs) ∷ byte 41 ∷ []

-- `I B)` of `(stock I B)`
abbrev pub stock_items : ℕ → List Item
stock_items nodes = node nodes ∷ byte 32 ∷ num (neg_ℤ (pos max_stock)) (pos max_stock) ∷ byte 41 ∷ []

-- `(T H) (L U) (C D))` of `(arc (T H) (L U) (C D))`
abbrev pub arc_items : ℕ → List Item
arc_items nodes = pair (node nodes) ++ (byte 32 ∷ pair amount ++ (byte 32 ∷ pair cost ++ (byte 41 ∷ [])))

-- a node and its stock as numbers of a form, and a road
abbrev pub stock_numbers : (ℕ × ℤ) → List ℤ
stock_numbers e = pos e.0 ∷ e.1 ∷ []

abbrev pub road_numbers : Road → List ℤ
road_numbers r = pos r.tail ∷ pos r.head ∷ pos r.least ∷ pos r.most ∷ r.first ∷ r.second ∷ []
