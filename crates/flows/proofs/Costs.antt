-- Sums of whole numbers: multiples are products, and no sum is further from zero than its terms together.
use Rattle.std.proofs.Common.{◌≡◌, ℕ, zero, suc, ◌<◌, ◌≤◌, List, length, ℤ, pos, ◌+ℤ◌, ◌*ℤ◌, nat_abs, sym, refl, ap, ◌∙◌, ap₂, mul-le-mul_right, arith}
use lib.IntN.{*ℤ_comm}
use Rattle.std.proofs.lemmas.Int.{ints}
use Rattle.numbers.specs.Totals.{total}
use Rattle.numbers.proofs.Products.{poly, far_of_product}
use Rattle.numbers.proofs.Totals.{total_le, total_part, total_list}
use Rattle.network.proofs.Floored.{far_sum}
use Rattle.network.specs.Arcs.{road_at, nowhere}
use Rattle.network.specs.Net.{Net, arc_count, span, reach_of}
use Rattle.network.specs.declared.road.Road.{Road}
use Rattle.worths.specs.Kinds.{plain, ranked, times, sum}
use Rattle.worths.specs.Laws.{ranked_ordered}
use Rattle.plane.specs.Points.{weigh}
use Rattle.flows.specs.Flows.{on, cost_of, point, first_cost, second_cost}
use Rattle.flows.specs.Prices.{worth_of, weighed}
use Rattle.flows.proofs.Sums as S

-- ---- multiples are products

pub times_product : (k : ℕ) (u : ℤ) → times plain k u ≡ pos k *ℤ u
times_product zero u = omega (arith, ints)
times_product (suc k) u = ap (λ z. u +ℤ z) (times_product k u) ∙ more (pos k) (pos (suc k)) (omega (arith, ints))
  where
    more : (a b : ℤ) → b ≡ a +ℤ pos 1 → u +ℤ a *ℤ u ≡ b *ℤ u
    more a b e = let o : pos 1 *ℤ u ≡ u = omega (arith, ints) in sym (ap (λ z. z *ℤ u) e ∙ omega (arith, poly))

pub times_pair : (k : ℕ) (u v : ℤ) → times ranked k (u, v) ≡ (times plain k u, times plain k v)
times_pair zero u v = refl
times_pair (suc k) u v = ap (ranked.plus (u, v)) (times_pair k u v)

pub sum_pair : (n : ℕ) (f g : ℕ → ℤ) → sum ranked n (λ a. (f a, g a)) ≡ (sum plain n f, sum plain n g)
sum_pair zero f g = refl
sum_pair (suc n) f g = ap (λ r. ranked.plus r (f n, g n)) (sum_pair n f g)

-- a ranked worth is worth part by part
pub worth_pair : (n : Net) (u v : ℕ → ℤ) (x : List ℕ) → worth_of ranked n (λ a. (u a, v a)) x ≡ (worth_of plain n u x, worth_of plain n v x)
worth_pair n u v x =
    S.sum_same ranked_ordered (arc_count n) _ (λ a. (times plain (on x a) (u a), times plain (on x a) (v a))) (λ a k. times_pair (on x a) (u a) (v a))
    ∙ sum_pair (arc_count n) (λ a. times plain (on x a) (u a)) (λ a. times plain (on x a) (v a))

-- ---- weights

-- p times one sum and q times another
sum_weighed : (m : ℕ) (x : ℕ → ℕ) (u v : ℕ → ℤ) (p q : ℤ)
    → sum plain m (λ a. times plain (x a) (p *ℤ u a +ℤ q *ℤ v a)) ≡ p *ℤ sum plain m (λ a. pos (x a) *ℤ u a) +ℤ q *ℤ sum plain m (λ a. pos (x a) *ℤ v a)
sum_weighed zero x u v p q = omega (arith, ints)
sum_weighed (suc m) x u v p q =
    ap₂ (λ s t. s +ℤ t) (sum_weighed m x u v p q) (times_product (x m) (p *ℤ u m +ℤ q *ℤ v m))
    ∙ go (sum plain m (λ a. pos (x a) *ℤ u a)) (sum plain m (λ a. pos (x a) *ℤ v a)) (pos (x m)) (u m) (v m)
  where
    go : (U V k u v : ℤ) → (p *ℤ U +ℤ q *ℤ V) +ℤ k *ℤ (p *ℤ u +ℤ q *ℤ v) ≡ p *ℤ (U +ℤ k *ℤ u) +ℤ q *ℤ (V +ℤ k *ℤ v)
    go U V k u v = omega (arith, poly, ap (λ z. z *ℤ u) (*ℤ_comm k p), ap (λ z. z *ℤ v) (*ℤ_comm k q))

-- what the fixed costs weigh, for all flows the same
abbrev pub fixed_weight : Net → ℤ → ℤ → ℤ
fixed_weight n p q = p *ℤ n.fixed.0 +ℤ q *ℤ n.fixed.1

pub weigh_worth : (n : Net) (p q : ℤ) (x : List ℕ) → weigh p q (point n x) ≡ fixed_weight n p q +ℤ worth_of plain n (weighed n p q) x
weigh_worth n p q x =
    go n.fixed.0 n.fixed.1 (cost_of first_cost n.roads (on x)) (cost_of second_cost n.roads (on x)) (worth_of plain n (weighed n p q) x)
    (sum_weighed (arc_count n) (on x) (λ a. (road_at n.roads a).first) (λ a. (road_at n.roads a).second) p q)
  where
    go : (a b u v w : ℤ) → w ≡ p *ℤ u +ℤ q *ℤ v → p *ℤ (a +ℤ u) +ℤ q *ℤ (b +ℤ v) ≡ (p *ℤ a +ℤ q *ℤ b) +ℤ w
    go a b u v w e = omega (arith, poly)

-- ---- how far a sum is from zero

far_total : (m : ℕ) (f : ℕ → ℤ) → nat_abs (sum plain m f) ≤ total m (λ a. nat_abs (f a))
far_total zero f = omega arith
far_total (suc m) f = omega (arith, far_total m f, far_sum (sum plain m f) (f m))

-- of the first k arcs, where no arc carries more than its most
pub part_near : (cost : Road → ℤ) (roads : List Road) (x : ℕ → ℕ) (k : ℕ) → k ≤ length roads → ((a : ℕ) → a < length roads → x a ≤ (road_at roads a).most)
    → nat_abs (sum plain k (λ a. pos (x a) *ℤ cost (road_at roads a))) ≤ reach_of cost roads
part_near cost roads x k h high =
    omega (
      arith,
      far_total k (λ a. pos (x a) *ℤ cost (road_at roads a)),
      total_le k (λ a. nat_abs (pos (x a) *ℤ cost (road_at roads a))) (λ a. span cost (road_at roads a)) (λ a l. term a (omega arith)),
      total_part k (length roads) (λ a. span cost (road_at roads a)) h,
      total_list (span cost) roads nowhere,
    )
  where
    term : (a : ℕ) → a < length roads → nat_abs (pos (x a) *ℤ cost (road_at roads a)) ≤ span cost (road_at roads a)
    term a l = omega (arith, far_of_product (pos (x a)) (cost (road_at roads a)), mul-le-mul_right (nat_abs (cost (road_at roads a))) (high a l))

pub cost_near : (cost : Road → ℤ) (roads : List Road) (x : ℕ → ℕ) → ((a : ℕ) → a < length roads → x a ≤ (road_at roads a).most) → nat_abs (cost_of cost roads x) ≤ reach_of cost roads
cost_near cost roads x high = part_near cost roads x (length roads) (omega arith) high
