-- Tests that can be computed: that a row is a flow, that prices fit it, that a network keeps the laws.
use Rattle.std.specs.Prelude.{ℕ, zero, suc, ◌+◌, Bool, true, ◌&&◌, ◌||◌, leb, List, length, ℤ, pos, ◌-ℤ◌, ◌==◌, int_le, nat_le, nat_lt, unsigned_abs}
use Rattle.network.specs.Arcs.{road_at, stock_at}
use Rattle.network.specs.Limits.{max_nodes, max_arcs, max_node, max_reach}
use Rattle.network.specs.Net.{Net, node_count, arc_count, touching, reach_of}
use Rattle.network.specs.Tested.{is_ranged, is_passable}
use Rattle.network.specs.declared.road.Road.{Road}
use Rattle.worths.specs.Kinds.{Kind}
use Rattle.worths.specs.Fit.{reduced}
use Rattle.plane.specs.Points.{Point}
use Rattle.flows.specs.Flows.{on, outflow, inflow, point, first_cost, second_cost}

-- the test passes at each number below n
abbrev pub all_below : ℕ → (ℕ → Bool) → Bool
all_below zero f = true
all_below (suc n) f = all_below n f && f n

abbrev pub is_same : ℤ → ℤ → Bool
is_same a b = int_le a b && int_le b a

abbrev pub is_same_point : Point → Point → Bool
is_same_point y z = is_same y.0 z.0 && is_same y.1 z.1

abbrev pub is_flow : Net → List ℕ → Bool
is_flow n x = length x == arc_count n && (all_below (arc_count n) (λ a. nat_le (road_at n.roads a).least (on x a) && nat_le (on x a) (road_at n.roads a).most)
    && all_below (node_count n) (λ v. is_same (pos (outflow n.roads (on x) v) -ℤ pos (inflow n.roads (on x) v)) (stock_at n.stocks v)))

-- a flow of this point
abbrev pub is_flow_of : Net → Point → List ℕ → Bool
is_flow_of n z x = is_flow n x && is_same_point (point n x) z

abbrev pub is_fit : (K : Kind) → List Road → (ℕ → K.Worth) → (ℕ → K.Worth) → List ℕ → Bool
is_fit K roads worth price x = all_below (length roads) (λ a. (K.at_most (reduced K roads worth price a) K.nil || on x a == (road_at roads a).least)
    && (K.at_most K.nil (reduced K roads worth price a) || on x a == (road_at roads a).most))

abbrev pub is_lawful : Net → Bool
is_lawful n = nat_lt 0 (node_count n) && (nat_le (node_count n) max_nodes && (nat_le (arc_count n) max_arcs
    && (all_below (arc_count n) (λ a. is_ranged (node_count n) (road_at n.roads a) && is_passable (road_at n.roads a))
    && (all_below (node_count n) (λ v. leb (unsigned_abs (stock_at n.stocks v) + touching v n.roads) max_node)
    && (nat_le (unsigned_abs n.fixed.0 + reach_of first_cost n.roads) max_reach && nat_le (unsigned_abs n.fixed.1 + reach_of second_cost n.roads) max_reach)))))
