-- Prices that fit a flow show that no flow is worth less, and fit every flow that is worth as much.
use Rattle.std.proofs.Common.{◌≡◌, ℕ, ◌+◌, ◌<◌, ◌≤◌, Bool, true, false, not, T, List, sym, refl, ap, ◌∙◌, subst, ap₂, arith}
use Rattle.std.proofs.lemmas.Int.{ints}
use Rattle.std.proofs.ByRecursion.{All-get_or}
use Rattle.network.specs.Arcs.{road_at, nowhere}
use Rattle.network.specs.Net.{Net, Lawful, node_count, arc_count}
use Rattle.network.specs.Roads.{Ranged}
use Rattle.worths.specs.Kinds.{Kind, Ordered, Above, Below, times, sum}
use Rattle.worths.specs.Fit.{Fits, reduced}
use Rattle.flows.specs.Flows.{Flow, on, outflow, inflow}
use Rattle.flows.specs.Prices.{worth_of, BestOf, SharedOf}
use Rattle.flows.proofs.Sums as S

-- ends of arcs are nodes

pub tail_node : (n : Net) → Lawful n → (a : ℕ) → a < arc_count n → (road_at n.roads a).tail < node_count n
tail_node n ok a h = (All-get_or (Ranged (node_count n)) n.roads a nowhere h ok.ranged).tail

pub head_node : (n : Net) → Lawful n → (a : ℕ) → a < arc_count n → (road_at n.roads a).head < node_count n
head_node n ok a h = (All-get_or (Ranged (node_count n)) n.roads a nowhere h ok.ranged).head

-- what leaves in one flow and arrives in the other
balanced : (n : Net) (x y : List ℕ) → Flow n x → Flow n y → (v : ℕ) → v < node_count n
    → outflow n.roads (on x) v + inflow n.roads (on y) v ≡ outflow n.roads (on y) v + inflow n.roads (on x) v
balanced n x y f g v h = grind (arith, ints)

module _ {K : Kind} (O : Ordered K) where
  -- against an arc that fits, any other number of chests within its bounds is worth no less at the reduced worth
  arc_best : (u : K.Worth) (x y least most : ℕ) → (Above K u → x ≡ least) → (Below K u → x ≡ most) → least ≤ y → y ≤ most → T (K.at_most (times K x u) (times K y u))
  arc_best u x y least most up down low high = go (K.at_most u K.nil) (K.at_most K.nil u) refl refl
    where
      go : (b c : Bool) → K.at_most u K.nil ≡ b → K.at_most K.nil u ≡ c → T (K.at_most (times K x u) (times K y u))
      go false c e f =
          let h : Above K u = subst (λ t. T (not t)) (sym e) tt in
          let q : x ≡ least = up h in
          S.times_rises O x y u (S.at_most_other O u K.nil h) (omega arith)
      go true false e f =
          let h : Below K u = subst (λ t. T (not t)) (sym f) tt in
          let q : x ≡ most = down h in
          S.times_falls O y x u (S.at_most_other O K.nil u h) (omega arith)
      go true true e f =
          let z : u ≡ K.nil = O.antisym u K.nil (subst T (sym e) tt) (subst T (sym f) tt) in
          let same : times K x u ≡ times K y u = ap (times K x) z ∙ S.times_nil O x ∙ sym (S.times_nil O y) ∙ ap (times K y) (sym z) in
          subst (λ w. T (K.at_most (times K x u) w)) same (S.at_most_refl O (times K x u))

  module _ (n : Net) (ok : Lawful n) (worth price : ℕ → K.Worth) (x y : List ℕ) (f : Flow n x) (g : Flow n y) where
    at_tail : ℕ → K.Worth
    at_tail a = price (road_at n.roads a).tail

    at_head : ℕ → K.Worth
    at_head a = price (road_at n.roads a).head

    red : ℕ → K.Worth
    red a = reduced K n.roads worth price a

    -- what the chests of a row are worth at a worth of each arc
    over : List ℕ → (ℕ → K.Worth) → K.Worth
    over z u = sum K (arc_count n) (λ a. times K (on z a) (u a))

    -- over the nodes, at each the chests that leave in z and those that arrive in t, times its price
    ends : List ℕ → List ℕ → K.Worth
    ends z t = sum K (node_count n) (λ v. times K (outflow n.roads (on z) v + inflow n.roads (on t) v) (price v))

    ends_over : (z t : List ℕ) → ends z t ≡ K.plus (over z at_tail) (over t at_head)
    unfolding ends over at_tail at_head
    ends_over z t =
        S.sum_same O (node_count n) _ (λ v. K.plus (times K (outflow n.roads (on z) v) (price v)) (times K (inflow n.roads (on t) v) (price v)))
        (λ v k. S.times_sum O (outflow n.roads (on z) v) (inflow n.roads (on t) v) (price v))
        ∙ S.sum_plus O (node_count n) (λ v. times K (outflow n.roads (on z) v) (price v)) (λ v. times K (inflow n.roads (on t) v) (price v))
        ∙ ap₂ K.plus (S.telescope O (arc_count n) (node_count n) (λ a. (road_at n.roads a).tail) (on z) price (tail_node n ok))
        (S.telescope O (arc_count n) (node_count n) (λ a. (road_at n.roads a).head) (on t) price (head_node n ok))

    balance : K.plus (over x at_tail) (over y at_head) ≡ K.plus (over y at_tail) (over x at_head)
    unfolding ends
    balance =
        sym (ends_over x y)
        ∙ S.sum_same O (node_count n) _ (λ v. times K (outflow n.roads (on y) v + inflow n.roads (on x) v) (price v)) (λ v k. ap (λ (j : ℕ). times K j (price v)) (balanced n x y f g v k))
        ∙ ends_over y x

    -- a row's worth and its reduced worth, with the prices that lie between them
    parted : (z : List ℕ) → K.plus (over z red) (over z at_head) ≡ K.plus (over z worth) (over z at_tail)
    unfolding over red at_tail at_head
    parted z =
        sym (S.sum_plus O (arc_count n) (λ a. times K (on z a) (red a)) (λ a. times K (on z a) (at_head a)))
        ∙ S.sum_same O (arc_count n) _ (λ a. K.plus (times K (on z a) (worth a)) (times K (on z a) (at_tail a))) (λ a k.
        sym (S.times_plus O (on z a) (red a) (at_head a)) ∙ ap (times K (on z a)) (back (K.plus (worth a) (at_tail a)) (at_head a)) ∙ S.times_plus O (on z a) (worth a) (at_tail a))
        ∙ S.sum_plus O (arc_count n) (λ a. times K (on z a) (worth a)) (λ a. times K (on z a) (at_tail a))
      where
        back : (u v : K.Worth) → K.plus (K.plus u (K.minus v)) v ≡ u
        back u v = O.assoc u (K.minus v) v ∙ ap (K.plus u) (O.comm (K.minus v) v ∙ O.inverse v) ∙ O.unit u

    -- both flows' worths are apart from their reduced worths by the same
    shift_x : K.plus (over x worth) (K.plus (over x at_tail) (over y at_head)) ≡ K.plus (over x red) (K.plus (over x at_head) (over y at_head))
    shift_x = sym (O.assoc _ _ _) ∙ ap (λ z. K.plus z (over y at_head)) (sym (parted x)) ∙ O.assoc _ _ _

    shift_y : K.plus (over y worth) (K.plus (over x at_tail) (over y at_head)) ≡ K.plus (over y red) (K.plus (over x at_head) (over y at_head))
    shift_y =
        ap (K.plus (over y worth)) balance ∙ sym (O.assoc _ _ _) ∙ ap (λ z. K.plus z (over x at_head)) (sym (parted y)) ∙ O.assoc _ _ _
        ∙ ap (K.plus (over y red)) (O.comm (over y at_head) (over x at_head))

    arcs_best : Fits K n.roads worth price x → (a : ℕ) → a < arc_count n → T (K.at_most (times K (on x a) (red a)) (times K (on y a) (red a)))
    unfolding red
    arcs_best fit a k =
        arc_best (reduced K n.roads worth price a) (on x a) (on y a) (road_at n.roads a).least (road_at n.roads a).most (fit a k).above (fit a k).below (g.low a k) (g.high a k)

    best_at : Fits K n.roads worth price x → T (K.at_most (worth_of K n worth x) (worth_of K n worth y))
    unfolding over
    best_at fit =
        let c : K.Worth = K.plus (over x at_tail) (over y at_head) in
        let d : K.Worth = K.plus (over x at_head) (over y at_head) in
        S.at_most_cancel O (over x worth) (over y worth) c
        (subst (λ u. T (K.at_most u (K.plus (over y worth) c))) (sym shift_x)
        (subst (λ u. T (K.at_most (K.plus (over x red) d) u)) (sym shift_y) (O.keeps (over x red) (over y red) d (S.sum_at_most O (arc_count n) _ _ (arcs_best fit)))))

    arcs_same : Fits K n.roads worth price x → worth_of K n worth x ≡ worth_of K n worth y → (a : ℕ) → a < arc_count n → times K (on x a) (red a) ≡ times K (on y a) (red a)
    unfolding over
    arcs_same fit e =
        S.terms_same O (arc_count n) _ _ (arcs_best fit)
        (S.cancel O (over x red) (over y red) (K.plus (over x at_head) (over y at_head)) (sym shift_x ∙ ap (λ u. K.plus u (K.plus (over x at_tail) (over y at_head))) e ∙ shift_y))

    shared_at : Fits K n.roads worth price x → worth_of K n worth x ≡ worth_of K n worth y → Fits K n.roads worth price y
    unfolding red
    shared_at fit e a k = record {
      above = λ r.
          let q : on x a ≡ (road_at n.roads a).least = (fit a k).above r in
          let low : on x a ≤ on y a = subst (λ u. u ≤ on y a) (sym q) (g.low a k) in
          sym (S.same_times_above O (on x a) (on y a) (red a) r low (arcs_same fit e a k)) ∙ q;
      below = λ r.
          let q : on x a ≡ (road_at n.roads a).most = (fit a k).below r in
          let high : on y a ≤ on x a = subst (λ u. on y a ≤ u) (sym q) (g.high a k) in
          S.same_times_below O (on y a) (on x a) (red a) r high (sym (arcs_same fit e a k)) ∙ q;
    }

  pub best : BestOf K
  best n ok worth price x y f g fit = best_at n ok worth price x y f g fit

  pub shared : SharedOf K
  shared n ok worth price x y f g fit e = shared_at n ok worth price x y f g fit e
