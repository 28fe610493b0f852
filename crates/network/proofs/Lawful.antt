-- Rows whose numbers are within their limits make a lawful network.
use Rattle.std.proofs.Common.{ℕ, ◌*◌, ◌<◌, ◌≤◌, ◌||◌, eqb, List, length, get_or, ℤ, pos, negsuc, nat_abs, mul-le-mul, arith}
use Rattle.std.specs.List.{AllByRecursion}
use Rattle.std.proofs.ByRecursion.{All-weaker, All-get_or, sum_by_le}
use Rattle.std.proofs.lemmas.Int.{ints}
use Rattle.std.proofs.lemmas.Bool.{cond_both}
use Rattle.network.specs.Limits.{max_nodes, max_arcs, max_stock, max_most, max_cost}
use Rattle.network.specs.Net.{Lawful, touch, touching, span, reach_of, rows_net}
use Rattle.network.specs.Roads.{Near, Ranged, Passable}
use Rattle.network.specs.declared.road.Road.{Road}

pub near_distance : (k : ℕ) (z : ℤ) → Near k z → nat_abs z ≤ k
near_distance k (pos n) h = omega (arith, ints)
near_distance k (negsuc n) h = omega (arith, ints)

-- at most as much at a node as all mosts together
pub touching_le : (v n : ℕ) (roads : List Road) → AllByRecursion (Ranged n) roads → touching v roads ≤ length roads * max_most
touching_le v n roads h =
    sum_by_le (touch v) max_most roads (All-weaker (Ranged n) (λ r. touch v r ≤ max_most) (λ r g. cond_both (eqb r.tail v || eqb r.head v) r.most 0 (λ u. u ≤ max_most) (λ _. g.most) (λ _. omega arith)) roads h)

pub reach_le : (cost : Road → ℤ) (n : ℕ) (roads : List Road) → ((r : Road) → Ranged n r → Near max_cost (cost r)) → AllByRecursion (Ranged n) roads → reach_of cost roads ≤ length roads * (max_most * max_cost)
reach_le cost n roads near h =
    sum_by_le (span cost) (max_most * max_cost) roads
    (All-weaker (Ranged n) (λ r. span cost r ≤ max_most * max_cost) (λ r g. mul-le-mul g.most (near_distance max_cost (cost r) (near r g))) roads h)

pub rows_lawful : (roads : List Road) (stocks : List ℤ) → 0 < length stocks → length stocks ≤ max_nodes → length roads ≤ max_arcs → AllByRecursion (Near max_stock) stocks
    → AllByRecursion (Ranged (length stocks)) roads → AllByRecursion Passable roads → Lawful (rows_net roads stocks)
rows_lawful roads stocks some few arcs near ranged passable = record {
  some = some;
  nodes = few;
  arcs = arcs;
  ranged = ranged;
  passable = passable;
  node = λ v l. omega (arith, near_distance max_stock (get_or stocks v (pos 0)) (All-get_or (Near max_stock) stocks v (pos 0) l near), touching_le v (length stocks) roads ranged);
  first = omega (arith, reach_le (λ r. r.first) (length stocks) roads (λ r g. g.first) ranged);
  second = omega (arith, reach_le (λ r. r.second) (length stocks) roads (λ r g. g.second) ranged);
}
