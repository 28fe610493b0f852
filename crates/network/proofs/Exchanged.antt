-- Exchanging the costs keeps the laws.
use Rattle.std.proofs.Common.{◌≡◌, ℕ, ◌+◌, ◌≤◌, List, [], ◌∷◌, map, sum_by, sym, refl, ap, ◌∙◌, subst, arith}
use Rattle.std.proofs.ByRecursion.{All-map, All-weaker}
use Rattle.std.proofs.lemmas.List.{length-map}
use Rattle.std.proofs.lemmas.List.Sums.{sum_by-cons}
use Rattle.network.specs.Exchanged.{swapped, exchanged}
use Rattle.network.specs.Limits.{max_arcs}
use Rattle.network.specs.Net.{Net, Lawful, node_count, touch, span}
use Rattle.network.specs.Roads.{Ranged, Passable}
use Rattle.network.specs.declared.road.Road.{Road}

-- a sum that does not see a change of the roads
pub sum_by_mapped : (f g : Road → ℕ) (change : Road → Road) → ((r : Road) → f (change r) ≡ g r) → (rs : List Road) → sum_by f (map change rs) ≡ sum_by g rs
sum_by_mapped f g change e [] = refl
sum_by_mapped f g change e (r ∷ rs) =
    sum_by-cons f (change r) (map change rs) ∙ ap (λ k. k + sum_by f (map change rs)) (e r) ∙ ap (λ k. g r + k) (sum_by_mapped f g change e rs) ∙ sym (sum_by-cons g r rs)

pub exchanged_lawful : (n : Net) → Lawful n → Lawful (exchanged n)
exchanged_lawful n h = record {
  some = h.some;
  nodes = h.nodes;
  arcs = subst (λ k. k ≤ max_arcs) (sym (length-map n.roads swapped)) h.arcs;
  ranged = All-map (Ranged (node_count n)) swapped n.roads
      (All-weaker (Ranged (node_count n)) (λ r. Ranged (node_count n) (swapped r)) (λ r g. record { tail = g.tail; head = g.head; least = g.least; most = g.most; first = g.second; second = g.first }) n.roads h.ranged);
  passable = All-map Passable swapped n.roads (All-weaker Passable (λ r. Passable (swapped r)) (λ r g. record { apart = g.apart; room = g.room }) n.roads h.passable);
  node = λ v l. omega (arith, h.node v l, sum_by_mapped (touch v) (touch v) swapped (λ r. refl) n.roads);
  first = omega (arith, h.second, sum_by_mapped (span (λ r. r.first)) (span (λ r. r.second)) swapped (λ r. refl) n.roads);
  second = omega (arith, h.first, sum_by_mapped (span (λ r. r.second)) (span (λ r. r.first)) swapped (λ r. refl) n.roads);
}

-- twice is not at all
swapped_twice : (rs : List Road) → map swapped (map swapped rs) ≡ rs
swapped_twice [] = refl
swapped_twice (r ∷ rs) = ap (λ l. r ∷ l) (swapped_twice rs)

pub exchanged_twice : (n : Net) → exchanged (exchanged n) ≡ n
exchanged_twice n = ap (λ l. record { stocks = n.stocks; roads = l; fixed = n.fixed }) (swapped_twice n.roads)
