-- From prices that fit to lightest points and lexicographic minima; every point lies within the reach.
use Rattle.std.proofs.Common.{◌≡◌, ℕ, ◌≤◌, T, List, ℤ, pos, ◌+ℤ◌, nat_abs, ◌≤ℤ◌, sym, refl, ap, ◌∙◌, subst, arith}
use lib.Signed.{le_z}
use Rattle.std.proofs.lemmas.Int.{ints}
use Rattle.network.proofs.Floored.{far_sum}
use Rattle.network.specs.Arcs.{road_at}
use Rattle.network.specs.Limits.{max_reach}
use Rattle.network.specs.Net.{Net, Lawful}
use Rattle.worths.specs.Kinds.{plain, ranked, Pair, at_most_pair}
use Rattle.worths.specs.Fit.{Fits}
use Rattle.worths.specs.Laws.{plain_ordered, ranked_ordered}
use Rattle.plane.specs.Points.{first, second, weigh, Least, Within}
use Rattle.plane.proofs.Minima.{least_alike, weigh_of, weigh_first_of}
use Rattle.plane.proofs.Sides.{weigh_first, weigh_second}
use Rattle.flows.specs.Flows.{Flow, on, point, Points, cost_of, first_cost, second_cost}
use Rattle.flows.specs.Prices.{worth_of, weighed, weighed_twice, by_first, by_second, by_weight_first, by_weight_second, LightestByPrices, FitWhereAsLight, MinimumByPrices, FitAtPoint, OpeningByPrices, ClosingByPrices, SearchingByPrices, WeighingByPrices, WeighingFirstByPrices}
use Rattle.flows.proofs.Costs.{worth_pair, weigh_worth, fixed_weight, cost_near}
use Rattle.flows.proofs.Duality.{best, shared}

-- the fixed costs weigh the same in both
same_apart : (c a b u v : ℤ) → a ≡ c +ℤ u → b ≡ c +ℤ v → a ≡ b → u ≡ v
same_apart c a b u v h k e = omega (arith, ints)

pub lightest_by_prices : LightestByPrices
lightest_by_prices n ok p q price x f fit z h =
    subst (λ y. weigh p q (point n x) ≤ℤ weigh p q y) h.here
    (go (fixed_weight n p q) (weigh p q (point n x)) (weigh p q (point n h.flow)) (worth_of plain n (weighed n p q) x) (worth_of plain n (weighed n p q) h.flow) (weigh_worth n p q x)
    (weigh_worth n p q h.flow) (best plain_ordered n ok (weighed n p q) price x h.flow f h.flows fit))
  where
    go : (c a b u v : ℤ) → a ≡ c +ℤ u → b ≡ c +ℤ v → T (le_z u v) → a ≤ℤ b
    go c a b u v h k l = omega (arith, ints)

pub fit_where_as_light : FitWhereAsLight
fit_where_as_light n ok p q price x y f g fit e =
    shared plain_ordered n ok (weighed n p q) price x y f g fit
    (same_apart (fixed_weight n p q) (weigh p q (point n x)) (weigh p q (point n y)) (worth_of plain n (weighed n p q) x) (worth_of plain n (weighed n p q) y) (weigh_worth n p q x) (weigh_worth n p q y) e)

-- at most by the first part, and where that is the same by the second
by_parts : (a b c d : ℤ) → T (at_most_pair (a, b) (c, d)) → (a ≤ℤ c) × (c ≡ a → b ≤ℤ d)
by_parts a b c d t = grind (arith, ints)

module _ (n : Net) (ok : Lawful n) (p q r s : ℤ) (price : ℕ → Pair) (x : List ℕ) (f : Flow n x) (fit : Fits ranked n.roads (weighed_twice n p q r s) price x) where
  -- what a flow is worth at the one weighing, and at the other
  one : List ℕ → ℤ
  one y = worth_of plain n (weighed n p q) y

  other : List ℕ → ℤ
  other y = worth_of plain n (weighed n r s) y

  parts : (y : List ℕ) → Flow n y → (one x ≤ℤ one y) × (one y ≡ one x → other x ≤ℤ other y)
  unfolding one other
  parts y g =
      by_parts (one x) (other x) (one y) (other y)
      (subst (λ u. T (ranked.at_most u (one y, other y))) (worth_pair n (weighed n p q) (weighed n r s) x)
      (subst (λ u. T (ranked.at_most (worth_of ranked n (weighed_twice n p q r s) x) u)) (worth_pair n (weighed n p q) (weighed n r s) y) (best ranked_ordered n ok (weighed_twice n p q r s) price x y f g fit)))

  minimum_at : Least (Points n) (weigh p q) (weigh r s) (point n x)
  unfolding one other
  minimum_at = record {
    stands = record { flow = x; flows = f; here = refl };
    least = λ z h. subst (λ y. weigh p q (point n x) ≤ℤ weigh p q y) h.here (low h.flow h.flows);
    tie = λ z h e. subst (λ y. weigh r s (point n x) ≤ℤ weigh r s y) h.here (next h.flow h.flows (ap (weigh p q) h.here ∙ e));
  }
    where
      more : (c a b u v : ℤ) → a ≡ c +ℤ u → b ≡ c +ℤ v → u ≤ℤ v → a ≤ℤ b
      more c a b u v h k l = omega (arith, ints)

      low : (y : List ℕ) → Flow n y → weigh p q (point n x) ≤ℤ weigh p q (point n y)
      low y g = more (fixed_weight n p q) _ _ (one x) (one y) (weigh_worth n p q x) (weigh_worth n p q y) (parts y g).0

      next : (y : List ℕ) → Flow n y → weigh p q (point n y) ≡ weigh p q (point n x) → weigh r s (point n x) ≤ℤ weigh r s (point n y)
      next y g e =
          more (fixed_weight n r s) _ _ (other x) (other y) (weigh_worth n r s x) (weigh_worth n r s y)
          ((parts y g).1 (same_apart (fixed_weight n p q) _ _ (one y) (one x) (weigh_worth n p q y) (weigh_worth n p q x) e))

  fit_at : (y : List ℕ) → Flow n y → point n x ≡ point n y → Fits ranked n.roads (weighed_twice n p q r s) price y
  unfolding one other
  fit_at y g e =
      shared ranked_ordered n ok (weighed_twice n p q r s) price x y f g fit
      (worth_pair n (weighed n p q) (weighed n r s) x ∙ (λ i. (same p q i, same r s i)) ∙ sym (worth_pair n (weighed n p q) (weighed n r s) y))
    where
      same : (u v : ℤ) → worth_of plain n (weighed n u v) x ≡ worth_of plain n (weighed n u v) y
      same u v = same_apart (fixed_weight n u v) _ _ _ _ (weigh_worth n u v x) (weigh_worth n u v y) (ap (weigh u v) e)

pub minimum_by_prices : MinimumByPrices
minimum_by_prices n ok p q r s price x f fit = minimum_at n ok p q r s price x f fit

pub fit_at_point : FitAtPoint
fit_at_point n ok p q r s price x y f g fit e = fit_at n ok p q r s price x f fit y g e

-- ---- the reach

pub points_within : (n : Net) → Lawful n → Within max_reach (Points n)
points_within n ok = record {
  first_near = λ z h. subst (λ y. nat_abs y.0 ≤ max_reach) h.here
      (omega (arith, ok.first, far_sum n.fixed.0 (cost_of first_cost n.roads (on h.flow)), cost_near first_cost n.roads (on h.flow) h.flows.high));
  second_near = λ z h. subst (λ y. nat_abs y.1 ≤ max_reach) h.here
      (omega (arith, ok.second, far_sum n.fixed.1 (cost_of second_cost n.roads (on h.flow)), cost_near second_cost n.roads (on h.flow) h.flows.high));
}

-- ---- the minima by which corners are found, each one weighing after another

-- the two costs of an arc as weighings
costs_weighed : (n : Net) (a : ℕ) → ((road_at n.roads a).first ≡ weighed n (pos 1) (pos 0) a) × ((road_at n.roads a).second ≡ weighed n (pos 0) (pos 1) a)
costs_weighed n a = grind (arith, ints)

by_first_is : (n : Net) → by_first n ≡ weighed_twice n (pos 1) (pos 0) (pos 0) (pos 1)
by_first_is n i a = ((costs_weighed n a).0 i, (costs_weighed n a).1 i)

by_second_is : (n : Net) → by_second n ≡ weighed_twice n (pos 0) (pos 1) (pos 1) (pos 0)
by_second_is n i a = ((costs_weighed n a).1 i, (costs_weighed n a).0 i)

by_weight_first_is : (n : Net) (p q : ℤ) → by_weight_first n p q ≡ weighed_twice n p q (pos 1) (pos 0)
by_weight_first_is n p q i a = (weighed n p q a, (costs_weighed n a).0 i)

by_weight_second_is : (n : Net) (p q : ℤ) → by_weight_second n p q ≡ weighed_twice n p q (pos 0) (pos 1)
by_weight_second_is n p q i a = (weighed n p q a, (costs_weighed n a).1 i)

-- a minimum by ranked worths that are one weighing after another
minimum : (n : Net) → Lawful n → (p q r s : ℤ) (worth price : ℕ → Pair) (x : List ℕ) → worth ≡ weighed_twice n p q r s → Flow n x → Fits ranked n.roads worth price x
    → Least (Points n) (weigh p q) (weigh r s) (point n x)
minimum n ok p q r s worth price x e f fit = minimum_by_prices n ok p q r s price x f (subst (λ w. Fits ranked n.roads w price x) e fit)

pub opening_by_prices : OpeningByPrices
opening_by_prices n ok price x f fit =
    least_alike (Points n) _ _ first second weigh_first weigh_second (point n x) (minimum n ok (pos 1) (pos 0) (pos 0) (pos 1) (by_first n) price x (by_first_is n) f fit)

pub closing_by_prices : ClosingByPrices
closing_by_prices n ok price x f fit =
    least_alike (Points n) _ _ second first weigh_second weigh_first (point n x) (minimum n ok (pos 0) (pos 1) (pos 1) (pos 0) (by_second n) price x (by_second_is n) f fit)

pub searching_by_prices : SearchingByPrices
searching_by_prices n ok p q price x f fit =
    least_alike (Points n) (weigh p q) _ (weigh p q) second (λ y. refl) weigh_second (point n x) (minimum n ok p q (pos 0) (pos 1) (by_weight_second n p q) price x (by_weight_second_is n p q) f fit)

pub weighing_by_prices : WeighingByPrices
weighing_by_prices n ok p q price x above f fit =
    weigh_of (Points n) p q (point n x) above
    (least_alike (Points n) (weigh p q) _ (weigh p q) first (λ y. refl) weigh_first (point n x) (minimum n ok p q (pos 1) (pos 0) (by_weight_first n p q) price x (by_weight_first_is n p q) f fit))

pub weighing_first_by_prices : WeighingFirstByPrices
weighing_first_by_prices n ok p price x above f fit = weigh_first_of (Points n) p (point n x) above (searching_by_prices n ok p (pos 0) price x f fit)
