-- A set of nodes that offers too much or too little admits no flow.
use Rattle.std.proofs.Common.{◌≡◌, ℕ, zero, suc, ◌<◌, ◌≤◌, Bool, true, false, cond, not, ◌&&◌, T, List, ℤ, pos, ◌+ℤ◌, ◌-ℤ◌, ◌<ℤ◌, sym, refl, ap, ◌∙◌, subst, inl, inr, arith}
use lib.Signed.{le_z}
use Rattle.std.proofs.lemmas.Int.{ints}
use Rattle.numbers.specs.Totals.{total}
use Rattle.network.specs.Arcs.{road_at, stock_at}
use Rattle.network.specs.Net.{Net, Lawful, node_count, arc_count}
use Rattle.worths.specs.Kinds.{plain, times, sum}
use Rattle.worths.specs.Laws.{plain_ordered}
use Rattle.flows.specs.Flows.{Flow, on, outflow, inflow}
use Rattle.flows.specs.Cuts.{over_leaving, over_entering, stock_in, most_of, least_of, UnservedStands}
use Rattle.flows.proofs.Duality.{tail_node, head_node}
use Rattle.flows.proofs.Sums.{sum_same, sum_plus, sum_at_most, times_nil, telescope}

times_one : (k : ℕ) → times plain k (pos 1) ≡ pos k
times_one zero = refl
times_one (suc k) = ap (λ z. pos 1 +ℤ z) (times_one k) ∙ omega (arith, ints)

sum_pos : (m : ℕ) (f : ℕ → ℕ) → sum plain m (λ i. pos (f i)) ≡ pos (total m f)
sum_pos zero f = refl
sum_pos (suc m) f = ap (λ z. z +ℤ pos (f m)) (sum_pos m f)

-- term by term, u and l are at most v and r
both_sums : (m : ℕ) (u v : ℕ → ℤ) (l r : ℕ → ℕ) → ((a : ℕ) → a < m → T (le_z (u a +ℤ pos (l a)) (v a +ℤ pos (r a)))) → T (le_z (sum plain m u +ℤ pos (total m l)) (sum plain m v +ℤ pos (total m r)))
both_sums m u v l r h =
    subst (λ z. T (le_z (sum plain m u +ℤ pos (total m l)) z)) (is v r)
    (subst (λ z. T (le_z z (sum plain m (λ a. v a +ℤ pos (r a))))) (is u l) (sum_at_most plain_ordered m (λ a. u a +ℤ pos (l a)) (λ a. v a +ℤ pos (r a)) h))
  where
    is : (w : ℕ → ℤ) (k : ℕ → ℕ) → sum plain m (λ a. w a +ℤ pos (k a)) ≡ sum plain m w +ℤ pos (total m k)
    is w k = sum_plus plain_ordered m w (λ a. pos (k a)) ∙ ap (λ z. sum plain m w +ℤ z) (sum_pos m k)

module _ (n : Net) (ok : Lawful n) (S : ℕ → Bool) (x : List ℕ) (f : Flow n x) where
  -- 1 in the set, 0 outside
  mark : ℕ → ℤ
  mark v = cond (S v) (pos 1) (pos 0)

  -- the chests that the arcs have at their tails in the set, and at their heads there
  at_tails : ℕ → ℤ
  at_tails a = times plain (on x a) (mark (road_at n.roads a).tail)

  at_heads : ℕ → ℤ
  at_heads a = times plain (on x a) (mark (road_at n.roads a).head)

  node : (v : ℕ) → v < node_count n → cond (S v) (stock_at n.stocks v) (pos 0) +ℤ times plain (inflow n.roads (on x) v) (mark v) ≡ times plain (outflow n.roads (on x) v) (mark v)
  unfolding mark
  node v k = go (S v) (inflow n.roads (on x) v) (outflow n.roads (on x) v) (stock_at n.stocks v) (f.kept v k)
    where
      go : (b : Bool) (i o : ℕ) (s : ℤ) → pos o -ℤ pos i ≡ s → cond b s (pos 0) +ℤ times plain i (cond b (pos 1) (pos 0)) ≡ times plain o (cond b (pos 1) (pos 0))
      go true i o s e = ap (λ z. s +ℤ z) (times_one i) ∙ omega (arith, ints) ∙ sym (times_one o)
      go false i o s e = ap (λ z. pos 0 +ℤ z) (times_nil plain_ordered i) ∙ sym (times_nil plain_ordered o)

  stock_between : stock_in n.stocks S +ℤ sum plain (arc_count n) at_heads ≡ sum plain (arc_count n) at_tails
  unfolding at_tails at_heads
  stock_between =
      ap (λ z. stock_in n.stocks S +ℤ z) (sym (telescope plain_ordered (arc_count n) (node_count n) (λ a. (road_at n.roads a).head) (on x) mark (head_node n ok)))
      ∙ sym (sum_plus plain_ordered (node_count n) (λ v. cond (S v) (stock_at n.stocks v) (pos 0)) (λ v. times plain (inflow n.roads (on x) v) (mark v)))
      ∙ sum_same plain_ordered (node_count n) _ (λ v. times plain (outflow n.roads (on x) v) (mark v)) node
      ∙ telescope plain_ordered (arc_count n) (node_count n) (λ a. (road_at n.roads a).tail) (on x) mark (tail_node n ok)

  -- one arc: what its bounds allow
  arc_out : (s t : Bool) (k low high : ℕ) → low ≤ k → k ≤ high
      → T (le_z (times plain k (cond s (pos 1) (pos 0)) +ℤ pos (cond (not s && t) low 0)) (times plain k (cond t (pos 1) (pos 0)) +ℤ pos (cond (s && not t) high 0)))
  arc_out true true k low high h j = omega (arith, ints)
  arc_out true false k low high h j = rw (times_one k, times_nil plain_ordered k) (omega (arith, ints))
  arc_out false true k low high h j = rw (times_one k, times_nil plain_ordered k) (omega (arith, ints))
  arc_out false false k low high h j = omega (arith, ints)

  arc_in : (s t : Bool) (k low high : ℕ) → low ≤ k → k ≤ high
      → T (le_z (times plain k (cond t (pos 1) (pos 0)) +ℤ pos (cond (s && not t) low 0)) (times plain k (cond s (pos 1) (pos 0)) +ℤ pos (cond (not s && t) high 0)))
  arc_in true true k low high h j = omega (arith, ints)
  arc_in true false k low high h j = rw (times_one k, times_nil plain_ordered k) (omega (arith, ints))
  arc_in false true k low high h j = rw (times_one k, times_nil plain_ordered k) (omega (arith, ints))
  arc_in false false k low high h j = omega (arith, ints)

  not_too_much : (pos (over_leaving most_of n.roads S) -ℤ pos (over_entering least_of n.roads S)) <ℤ stock_in n.stocks S → ⊥
  unfolding at_tails at_heads mark
  not_too_much =
      go (stock_in n.stocks S) (sum plain (arc_count n) at_heads) (sum plain (arc_count n) at_tails) (over_leaving most_of n.roads S) (over_entering least_of n.roads S) stock_between
      (both_sums (arc_count n) at_tails at_heads _ _
      (λ a k. arc_out (S (road_at n.roads a).tail) (S (road_at n.roads a).head) (on x a) (road_at n.roads a).least (road_at n.roads a).most (f.low a k) (f.high a k)))
    where
      go : (s h t : ℤ) (u l : ℕ) → s +ℤ h ≡ t → T (le_z (t +ℤ pos l) (h +ℤ pos u)) → (pos u -ℤ pos l) <ℤ s → ⊥
      go s h t u l e j c = omega (arith, ints)

  not_too_little : stock_in n.stocks S <ℤ (pos (over_leaving least_of n.roads S) -ℤ pos (over_entering most_of n.roads S)) → ⊥
  unfolding at_tails at_heads mark
  not_too_little =
      go (stock_in n.stocks S) (sum plain (arc_count n) at_heads) (sum plain (arc_count n) at_tails) (over_leaving least_of n.roads S) (over_entering most_of n.roads S) stock_between
      (both_sums (arc_count n) at_heads at_tails _ _
      (λ a k. arc_in (S (road_at n.roads a).tail) (S (road_at n.roads a).head) (on x a) (road_at n.roads a).least (road_at n.roads a).most (f.low a k) (f.high a k)))
    where
      go : (s h t : ℤ) (l u : ℕ) → s +ℤ h ≡ t → T (le_z (h +ℤ pos l) (t +ℤ pos u)) → s <ℤ (pos l -ℤ pos u) → ⊥
      go s h t l u e j c = omega (arith, ints)

pub unserved_stands : UnservedStands
unserved_stands n ok S (inl h) x f = not_too_much n ok S x f h
unserved_stands n ok S (inr h) x f = not_too_little n ok S x f h
