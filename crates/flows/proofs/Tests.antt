-- What the tests show.
use Rattle.std.proofs.Common.{◌≡◌, ℕ, zero, suc, ◌+◌, ◌<◌, Bool, true, not, ◌&&◌, ◌||◌, T, eqb, ltb, leb, List, [], ◌∷◌, length, ℤ, nat_abs, sym, subst, arith, eqb→eq, ltb→lt, leb→le}
use native.Mathlib.Decide.{ℕ_discrete}
use Rattle.std.specs.List.{AllByRecursion}
use Rattle.std.proofs.lemmas.Int.{ints}
use Rattle.network.specs.Arcs.{road_at, stock_at}
use Rattle.network.specs.Limits.{max_nodes, max_arcs, max_node, max_reach}
use Rattle.network.specs.Net.{Net, Lawful, node_count, arc_count, touching, reach_of}
use Rattle.network.specs.Roads.{Ranged, Passable}
use Rattle.network.specs.Tested.{is_ranged, is_passable}
use Rattle.network.specs.declared.road.Road.{Road}
use Rattle.network.proofs.Tested.{from_ranged, from_passable}
use Rattle.worths.specs.Kinds.{Kind}
use Rattle.worths.specs.Fit.{Fits, reduced}
use Rattle.plane.specs.Points.{Point}
use Rattle.flows.specs.Flows.{Flow, on, point, first_cost}
use Rattle.flows.specs.Tests.{all_below, is_same, is_same_point, is_flow, is_flow_of, is_fit, is_lawful}

pub both : (a b : Bool) → T (a && b) → T a × T b
both a b t = grind (arith, ints)

pub below_all : (n : ℕ) (f : ℕ → Bool) → T (all_below n f) → (i : ℕ) → i < n → T (f i)
below_all zero f t i h = absurd (omega arith)
below_all (suc n) f t i h = go (ℕ_discrete i n) (λ k. below_all n f (both _ _ t).0 i k)
  where
    go : Dec (i ≡ n) → (i < n → T (f i)) → T (f i)
    go (yes e) r = subst (λ j. T (f j)) (sym e) (both (all_below n f) (f n) t).1
    go (no d) r = r (omega arith)

pub same_by : (a b : ℤ) → T (is_same a b) → a ≡ b
same_by a b t = grind (arith, ints)

pub same_point_by : (y z : Point) → T (is_same_point y z) → y ≡ z
same_point_by y z t i = (same_by y.0 z.0 (both (is_same y.0 z.0) _ t).0 i, same_by y.1 z.1 (both (is_same y.0 z.0) _ t).1 i)

pub flow_by : (n : Net) (x : List ℕ) → T (is_flow n x) → Flow n x
flow_by n x t =
    let s = both (eqb (length x) (arc_count n)) _ t in
    let u = both (all_below (arc_count n) (λ a. leb (road_at n.roads a).least (on x a) && leb (on x a) (road_at n.roads a).most)) _ s.1 in
    record {
      long = eqb→eq _ _ s.0;
      low = λ a k. leb→le _ _ (both (leb (road_at n.roads a).least (on x a)) _ (below_all (arc_count n) _ u.0 a k)).0;
      high = λ a k. leb→le _ _ (both (leb (road_at n.roads a).least (on x a)) _ (below_all (arc_count n) _ u.0 a k)).1;
      kept = λ v k. same_by _ _ (below_all (node_count n) _ u.1 v k);
    }

pub point_by : (n : Net) (z : Point) (x : List ℕ) → T (is_flow_of n z x) → Flow n x × (point n x ≡ z)
point_by n z x t = let s = both (is_flow n x) _ t in (flow_by n x s.0, same_point_by (point n x) z s.1)

or_else : (a b : Bool) → T (a || b) → T (not a) → T b
or_else a b t u = grind (arith, ints)

pub fit_by : (K : Kind) (roads : List Road) (worth price : ℕ → K.Worth) (x : List ℕ) → T (is_fit K roads worth price x) → Fits K roads worth price x
fit_by K roads worth price x t a k =
    let w : K.Worth = reduced K roads worth price a in
    let s = both (K.at_most w K.nil || eqb (on x a) (road_at roads a).least) _ (below_all (length roads) _ t a k) in
    record {
      above = λ r. eqb→eq _ _ (or_else (K.at_most w K.nil) _ s.0 r);
      below = λ r. eqb→eq _ _ (or_else (K.at_most K.nil w) _ s.1 r);
    }

-- ---- laws

is_true : (b : Bool) → T b → b ≡ true
is_true b t = grind (arith, ints)

all_by : (Q : Road → Type 0) (roads : List Road) → ((a : ℕ) → a < length roads → Q (road_at roads a)) → AllByRecursion Q roads
all_by Q [] h = tt
all_by Q (r ∷ rs) h = (h 0 (omega arith), all_by Q rs (λ a k. h (suc a) (omega arith)))

pub lawful_by : (n : Net) → T (is_lawful n) → Lawful n
lawful_by n t =
    let roads_test : ℕ → Bool = λ a. is_ranged (node_count n) (road_at n.roads a) && is_passable (road_at n.roads a) in
    let nodes_test : ℕ → Bool = λ v. leb (nat_abs (stock_at n.stocks v) + touching v n.roads) max_node in
    let s = both (ltb 0 (node_count n)) _ t in
    let u = both (leb (node_count n) max_nodes) _ s.1 in
    let v = both (leb (arc_count n) max_arcs) _ u.1 in
    let w = both (all_below (arc_count n) roads_test) _ v.1 in
    let y = both (all_below (node_count n) nodes_test) _ w.1 in
    let z = both (leb (nat_abs n.fixed.0 + reach_of first_cost n.roads) max_reach) _ y.1 in
    record {
      some = ltb→lt _ _ s.0;
      nodes = leb→le _ _ u.0;
      arcs = leb→le _ _ v.0;
      ranged = all_by (Ranged (node_count n)) n.roads (λ a k. from_ranged (node_count n) (road_at n.roads a) (is_true _ (both (is_ranged (node_count n) (road_at n.roads a)) _ (below_all (arc_count n) roads_test w.0 a k)).0));
      passable = all_by Passable n.roads (λ a k. from_passable (road_at n.roads a) (is_true _ (both (is_ranged (node_count n) (road_at n.roads a)) _ (below_all (arc_count n) roads_test w.0 a k)).1));
      node = λ v k. leb→le _ _ (below_all (node_count n) nodes_test y.0 v k);
      first = leb→le _ _ z.0;
      second = leb→le _ _ z.1;
    }
