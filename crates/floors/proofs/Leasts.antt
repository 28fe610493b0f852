-- Sums over the first roads of a network, and their bounds.
use Rattle.std.proofs.Common.{◌≡◌, ℕ, zero, suc, ◌+◌, ◌*◌, ◌≤◌, cond, eqb, List, [], ◌∷◌, take, ℤ, pos, ◌+ℤ◌, ◌*ℤ◌, nat_abs, Some, sum_by, sym, refl, ap, ◌∙◌, mul-le-mul, add-one, arith}
use lib.IntN.{+ℤ_assoc, +ℤ_idl, +ℤ_idr}
use lib.ListN.{length-map}
use Rattle.std.specs.List.{slice_get, AllByRecursion}
use Rattle.std.specs.Option.{option_map}
use Rattle.std.proofs.ByRecursion.{All-weaker, All-take, sum_by_le}
use Rattle.std.proofs.lemmas.List.Sums.{sum_by_more, sum_by-take-le}
use Rattle.std.proofs.lemmas.Bool.Decides.{nat_tests}
use Rattle.network.proofs.Floored.{length_left, cost_share}
use Rattle.std.proofs.lemmas.Option.{slice_get_within, get_or_from_slice_get}
use Rattle.network.specs.Floored.{lowered, least_cost, stock_left, stocks_left, floored}
use Rattle.network.specs.Limits.{max_arcs, max_most, max_node, max_reach}
use Rattle.network.specs.Net.{Net, Lawful, size_of, span, reach_of}
use Rattle.network.specs.Roads.{Ranged, Passable, end_node}
use Rattle.network.specs.declared.road.End.{End}
use Rattle.network.specs.declared.road.Road.{Road}
use Rattle.network.specs.declared.size.Size.{Size}
use Rattle.floors.specs.Leasts.{leasts_at}

-- what stands at a place

nth_left_from : (roads : List Road) (u v : ℕ) (bs : List ℤ) → slice_get (stocks_left roads u bs) v ≡ option_map (stock_left roads (u + v)) (slice_get bs v)
nth_left_from roads u v [] = refl
nth_left_from roads u zero (b ∷ bs) = let e : u ≡ u + 0 = omega arith in ap (λ w. Some (stock_left roads w b)) e
nth_left_from roads u (suc v) (b ∷ bs) =
    let e : suc u + v ≡ u + suc v = omega arith
    in nth_left_from roads (suc u) v bs ∙ ap (λ w. option_map (stock_left roads w) (slice_get bs v)) e

pub nth_left : (roads : List Road) (v : ℕ) (bs : List ℤ) → slice_get (stocks_left roads 0 bs) v ≡ option_map (stock_left roads v) (slice_get bs v)
nth_left roads v bs = let e : 0 + v ≡ v = omega arith in nth_left_from roads 0 v bs ∙ ap (λ w. option_map (stock_left roads w) (slice_get bs v)) e

-- the leasts at an end, with one road more, and their bound
pub leasts_more : (end : End) (v : ℕ) (rs : List Road) (i : ℕ) (r : Road) → Some r ≡ slice_get rs i → leasts_at end v (take (i + 1) rs) ≡ leasts_at end v (take i rs) + cond (eqb (end_node end r) v) r.least 0
leasts_more end v rs i r e =
    let least : Road → ℕ = λ x. cond (eqb (end_node end x) v) x.least 0 in
    sum_by_more least rs i r (slice_get_within rs i r (sym e)) ∙ ap (λ x. sum_by least (take i rs) + least x) (get_or_from_slice_get rs i r r (sym e))

pub leasts_low : (end : End) (v : ℕ) (n : Net) → Lawful n → leasts_at end v n.roads ≤ max_arcs * max_most
leasts_low end v n h =
    let least : Road → ℕ = λ r. cond (eqb (end_node end r) v) r.least 0 in
    let each = All-weaker (Ranged _) (λ r. least r ≤ max_most) (λ r k. let low = k.least in grind (arith, nat_tests)) n.roads h.ranged
    in let k : max_most ≤ max_most = omega arith
    in omega (arith, sum_by_le least max_most n.roads each, mul-le-mul h.arcs k)

-- what the leasts cost, with one road more
cost_step : (cost : Road → ℤ) (rs : List Road) (i : ℕ) (r : Road) → Some r ≡ slice_get rs i → least_cost cost (take (suc i) rs) ≡ least_cost cost (take i rs) +ℤ (pos r.least *ℤ cost r)
cost_step cost [] i r e = cc
cost_step cost (x ∷ rs) zero r e =
    let same : x ≡ r = cc
    in +ℤ_idr (pos x.least *ℤ cost x) ∙ ap (λ y. pos y.least *ℤ cost y) same ∙ sym (+ℤ_idl (pos r.least *ℤ cost r))
cost_step cost (x ∷ rs) (suc i) r e =
    ap (λ z. (pos x.least *ℤ cost x) +ℤ z) (cost_step cost rs i r e) ∙ sym (+ℤ_assoc (pos x.least *ℤ cost x) (least_cost cost (take i rs)) (pos r.least *ℤ cost r))

pub cost_more : (cost : Road → ℤ) (rs : List Road) (i : ℕ) (r : Road) → Some r ≡ slice_get rs i → least_cost cost (take (i + 1) rs) ≡ least_cost cost (take i rs) +ℤ (pos r.least *ℤ cost r)
cost_more cost rs i r e = simp add-one (cost_step cost rs i r e)

-- and its distance from zero
pub cost_near : (cost : Road → ℤ) → ((r : Road) → cost (lowered r) ≡ cost r) → (rs : List Road) → AllByRecursion Passable rs → (k : ℕ) → k + reach_of cost rs ≤ max_reach → (i : ℕ) → nat_abs (least_cost cost (take i rs)) ≤ max_reach
cost_near cost same rs h k bound i = omega (arith, cost_share cost same (take i rs) (All-take Passable i rs h), sum_by-take-le (span cost) rs i)

pub stock_near : (n : Net) → Lawful n → (v : ℕ) (b : ℤ) → Some b ≡ slice_get n.stocks v → nat_abs b ≤ max_node
stock_near n h v b e = omega (arith, h.node v (slice_get_within n.stocks v b (sym e)), ap nat_abs (get_or_from_slice_get n.stocks v b (pos 0) (sym e)))

-- both costs of the leasts, said of the network as it came
pub costs_of : (n m : Net) (p : ℤ × ℤ) → p ≡ (least_cost (λ r. r.first) m.roads, least_cost (λ r. r.second) m.roads) → m ≡ n → (p.0 ≡ least_cost (λ r. r.first) n.roads) × (p.1 ≡ least_cost (λ r. r.second) n.roads)
costs_of n m p e same = (ap (λ q. q.0) e ∙ ap (λ k. least_cost (λ r. r.first) k.roads) same, ap (λ q. q.1) e ∙ ap (λ k. least_cost (λ r. r.second) k.roads) same)

-- the size of the network without its leasts
pub size_is : (n : Net) (s : Size) (x y : ℤ) → s ≡ size_of n → x ≡ (floored n).fixed.0 → y ≡ (floored n).fixed.1
    → ◌≡◌ {A = Size} record { nodes = s.nodes; arcs = s.arcs; fixed = (x, y) } (size_of (floored n))
size_is n s x y e ex ey =
    let nodes = ap (λ t. t.nodes) e ∙ sym (length_left n.roads 0 n.stocks)
    in let arcs = ap (λ t. t.arcs) e ∙ sym (length-map n.roads lowered)
    in λ i. record { nodes = nodes i; arcs = arcs i; fixed = (ex i, ey i) }
