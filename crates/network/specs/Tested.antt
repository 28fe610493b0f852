-- Which rows of roads and stocks make a network: the test of a table over a caller's rows.
use Rattle.std.specs.Prelude.{ℕ, suc, Bool, true, false, cond, not, ◌&&◌, List, [], ◌∷◌, length, ℤ, pos, neg_ℤ, Some, None, Option, ◌==◌, int_le, nat_le, nat_lt}
use Rattle.network.specs.Limits.{max_nodes, max_arcs, max_stock, max_most, max_cost}
use Rattle.network.specs.Net.{Net, blank, rows_net}
use Rattle.network.specs.declared.refusal.Refusal.{Refusal}
use Rattle.network.specs.declared.refusal.Refusal.TheVariants.{Number, Impassable}
use Rattle.network.specs.declared.road.Road.{Road}

abbrev pub is_near : ℕ → ℤ → Bool
is_near far z = int_le (neg_ℤ (pos far)) z && int_le z (pos far)

abbrev pub is_joined : ℕ → Road → Bool
is_joined nodes r = nat_lt r.tail nodes && nat_lt r.head nodes

abbrev pub is_bounded : Road → Bool
is_bounded r = nat_le r.least max_most && nat_le r.most max_most

abbrev pub is_costed : Road → Bool
is_costed r = is_near max_cost r.first && is_near max_cost r.second

abbrev pub is_ranged : ℕ → Road → Bool
is_ranged nodes r = is_joined nodes r && (is_bounded r && is_costed r)

abbrev pub is_passable : Road → Bool
is_passable r = not (r.tail == r.head) && nat_le r.least r.most

-- the first stock outside its range, from record i on
abbrev pub stock_fault : ℕ → List ℤ → Option Refusal
stock_fault i [] = None
stock_fault i (b ∷ bs) = cond (is_near max_stock b) (stock_fault (suc i) bs) (Some (Number i))

-- the first road at fault, from record i on
abbrev pub road_fault : ℕ → ℕ → List Road → Option Refusal
road_fault nodes i [] = None
road_fault nodes i (r ∷ rs) = cond (is_ranged nodes r) (cond (is_passable r) (road_fault nodes (suc i) rs) (Some (Impassable i))) (Some (Number i))

abbrev pub or_else : Option Refusal → Option Refusal → Option Refusal
or_else None o = o
or_else (Some e) o = Some e

-- as many nodes and arcs as there may be
abbrev pub is_sized : List Road → List ℤ → Bool
is_sized roads stocks = nat_lt 0 (length stocks) && (nat_le (length stocks) max_nodes && nat_le (length roads) max_arcs)

-- the first fault of rows: a bad length, then record by record, all stocks before all roads
abbrev pub row_fault : List Road → List ℤ → Option Refusal
row_fault roads stocks = cond (is_sized roads stocks) (or_else (stock_fault 0 stocks) (road_fault (length stocks) 0 roads)) (Some (Number 0))

abbrev pub passed : Option Refusal → Bool
passed None = true
passed (Some e) = false

-- what rows mean: one blank node where they are at fault
abbrev pub table_net : Bool → List Road → List ℤ → Net
table_net true roads stocks = rows_net roads stocks
table_net false roads stocks = blank
