-- With every least taken away a network keeps the laws: what a least takes from an arc's most, it adds at most to stocks and fixed costs.
use Rattle.std.proofs.Common.{◌≡◌, ℕ, zero, suc, ◌+◌, ◌-◌, ◌*◌, ◌<◌, ◌≤◌, cond, eqb, List, [], ◌∷◌, map, length, get_or, ℤ, pos, negsuc, ◌+ℤ◌, ◌-ℤ◌, ◌*ℤ◌, neg_ℤ, nat_abs, sym, refl, ap, ◌∙◌, add-mul, zero-add, arith}
use lib.ListN.{length-map}
use Rattle.std.proofs.ByRecursion.{All-map, All-weaker}
use Rattle.std.proofs.lemmas.List.Sums.{sum_by-cons}
use Rattle.std.proofs.lemmas.Bool.Decides.{nat_tests}
use Rattle.std.specs.List.{AllByRecursion}
use Rattle.network.specs.Floored.{lowered, leaving, arriving, stock_left, stocks_left, least_cost, floored}
use Rattle.network.specs.Net.{Net, Lawful, node_count, touch, touching, span, reach_of}
use Rattle.network.specs.Roads.{Ranged, Passable}
use Rattle.network.specs.declared.road.Road.{Road}

-- distances from zero

pub far_sum : (a b : ℤ) → nat_abs (a +ℤ b) ≤ nat_abs a + nat_abs b
far_sum (pos m) (pos n) = omega arith
far_sum (pos m) (negsuc n) = grind (arith, nat_tests)
far_sum (negsuc m) (pos n) = grind (arith, nat_tests)
far_sum (negsuc m) (negsuc n) = omega arith

pub far_less : (b : ℤ) (n : ℕ) → nat_abs (b -ℤ pos n) ≤ nat_abs b + n
far_less b zero = far_sum b (pos 0)
far_less b (suc n) = far_sum b (negsuc n)

far_neg : (n : ℕ) → nat_abs (neg_ℤ (pos n)) ≡ n
far_neg zero = refl
far_neg (suc n) = refl

pub far_product : (m : ℕ) (z : ℤ) → nat_abs (pos m *ℤ z) ≡ m * nat_abs z
far_product m (pos n) = refl
far_product m (negsuc n) = far_neg (m * suc n)

pub far_left : (b : ℤ) (out back : ℕ) → nat_abs ((b -ℤ pos out) +ℤ pos back) ≤ nat_abs b + out + back
far_left b out back = omega (arith, far_less b out, far_sum (b -ℤ pos out) (pos back))

-- stocks

pub length_left : (roads : List Road) (v : ℕ) (bs : List ℤ) → length (stocks_left roads v bs) ≡ length bs
length_left roads v [] = refl
length_left roads v (b ∷ bs) = ap suc (length_left roads (suc v) bs)

pub get_or_left : (roads : List Road) (u v : ℕ) (bs : List ℤ) → v < length bs → get_or (stocks_left roads u bs) v (pos 0) ≡ stock_left roads (u + v) (get_or bs v (pos 0))
get_or_left roads u v [] h = absurd (omega arith)
get_or_left roads u zero (b ∷ bs) h = let e : u ≡ u + 0 = omega arith in ap (λ w. stock_left roads w b) e
get_or_left roads u (suc v) (b ∷ bs) h =
    let e : suc u + v ≡ u + suc v = omega arith
    in get_or_left roads (suc u) v bs (omega arith) ∙ ap (λ w. stock_left roads w (get_or bs v (pos 0))) e

share_one : (v : ℕ) (r : Road) → Passable r → cond (eqb r.tail v) r.least 0 + cond (eqb r.head v) r.least 0 + touch v (lowered r) ≤ touch v r
share_one v r p = let room = p.room in let apart = p.apart in grind (arith, nat_tests)

-- an arc that touches the node leaves it or arrives there, and not both
pub share : (v : ℕ) (rs : List Road) → AllByRecursion Passable rs → leaving v rs + arriving v rs + touching v (map lowered rs) ≤ touching v rs
share v [] p = omega arith
share v (r ∷ rs) p =
    omega (
      arith,
      share v rs p.1,
      share_one v r p.0,
      sum_by-cons (λ e. cond (eqb e.tail v) e.least 0) r rs,
      sum_by-cons (λ e. cond (eqb e.head v) e.least 0) r rs,
      sum_by-cons (touch v) (lowered r) (map lowered rs),
      sum_by-cons (touch v) r rs,
    )

-- costs

parted : (least most far : ℕ) → least ≤ most → least * far + (most - least) * far ≡ most * far
parted least most far h = let e : least + (most - least) ≡ most = omega arith in sym (add-mul least (most - least) far) ∙ ap (λ m. m * far) e

-- what the leasts cost is as far from zero as the reach that they take away, or less
pub cost_share : (cost : Road → ℤ) → ((r : Road) → cost (lowered r) ≡ cost r) → (rs : List Road) → AllByRecursion Passable rs → nat_abs (least_cost cost rs) + reach_of cost (map lowered rs) ≤ reach_of cost rs
cost_share cost same [] p = omega arith
cost_share cost same (r ∷ rs) p =
    let e : span cost (lowered r) ≡ (r.most - r.least) * nat_abs (cost r) = ap (λ z. (r.most - r.least) * nat_abs z) (same r)
    in omega (
      arith,
      cost_share cost same rs p.1,
      far_sum (pos r.least *ℤ cost r) (least_cost cost rs),
      far_product r.least (cost r),
      parted r.least r.most (nat_abs (cost r)) p.0.room,
      sum_by-cons (span cost) (lowered r) (map lowered rs),
      sum_by-cons (span cost) r rs,
    )

-- all together

lowered_ranged : (k m : ℕ) → k ≡ m → (r : Road) → Ranged k r → Ranged m (lowered r)
lowered_ranged k m e r h = record {
  tail = omega (arith, h.tail);
  head = omega (arith, h.head);
  least = omega arith;
  most = omega (arith, h.most);
  first = h.first;
  second = h.second;
}

lowered_passable : (r : Road) → Passable r → Passable (lowered r)
lowered_passable r h = record { apart = h.apart; room = omega arith }

pub floored_lawful : (n : Net) → Lawful n → Lawful (floored n)
floored_lawful n h =
    let count : node_count (floored n) ≡ node_count n = length_left n.roads 0 n.stocks
    in record {
      some = omega (arith, h.some);
      nodes = omega (arith, h.nodes);
      arcs = omega (arith, h.arcs, length-map n.roads lowered);
      ranged = All-map _ lowered n.roads (All-weaker _ _ (lowered_ranged (node_count n) (node_count (floored n)) (sym count)) n.roads h.ranged);
      passable = All-map Passable lowered n.roads (All-weaker Passable (λ r. Passable (lowered r)) lowered_passable n.roads h.passable);
      node = λ v l.
          let b = get_or n.stocks v (pos 0)
          in let inside : v < node_count n = omega arith
          in let e : get_or (floored n).stocks v (pos 0) ≡ stock_left n.roads v b = get_or_left n.roads 0 v n.stocks inside ∙ ap (λ w. stock_left n.roads w b) (zero-add v)
          in omega (arith, ap nat_abs e, h.node v inside, share v n.roads h.passable, far_left b (leaving v n.roads) (arriving v n.roads));
      first = omega (arith, h.first, far_sum n.fixed.0 (least_cost (λ r. r.first) n.roads), cost_share (λ r. r.first) (λ r. refl) n.roads h.passable);
      second = omega (arith, h.second, far_sum n.fixed.1 (least_cost (λ r. r.second) n.roads), cost_share (λ r. r.second) (λ r. refl) n.roads h.passable);
    }
