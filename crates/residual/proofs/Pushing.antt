-- A push over one step: what it does to bounds, to the excess at its two ends, to the flow's worth and to the room of steps.
use Rattle.std.proofs.Common.{◌≡◌, ℕ, zero, suc, ◌+◌, ◌-◌, ◌<◌, ◌≤◌, Bool, true, false, cond, eqb, ◌≢◌, List, length, ℤ, pos, ◌+ℤ◌, ◌-ℤ◌, ◌*ℤ◌, neg_ℤ, sym, refl, ap, ◌∙◌, subst, arith}
use native.Mathlib.Decide.{ℕ_discrete}
use Rattle.std.proofs.lemmas.List.{get_or-set_same, get_or-set_other, length-set}
use Rattle.std.proofs.lemmas.Int.{ints}
use Rattle.numbers.specs.Totals.{total}
use Rattle.numbers.proofs.Products.{poly}
use Rattle.numbers.proofs.Totals.{total_change}
use Rattle.network.specs.Arcs.{road_at, stock_at}
use Rattle.network.specs.Net.{Net, node_count, arc_count}
use Rattle.network.specs.Roads.{end_node, other_end}
use Rattle.network.specs.declared.road.End.{End}
use Rattle.network.specs.declared.road.End.TheVariants.{Tail, Head}
use Rattle.network.specs.declared.road.Road.{Road}
use Rattle.worths.specs.Kinds.{plain, times, sum}
use Rattle.worths.specs.Laws.{plain_ordered}
use Rattle.flows.specs.Flows.{Flow, on, outflow, inflow}
use Rattle.flows.specs.Prices.{worth_of}
use Rattle.flows.proofs.Costs.{times_product}
use Rattle.flows.proofs.Sums as S
use Rattle.residual.specs.Steps.{along, start, finish, flip, room, pushed, step_worth, Bounded, excess, at, Moved}
use Rattle.residual.specs.declared.step.Step.{Step}

-- ---- flows and excess

pub flow_even : (n : Net) (x : List ℕ) → Flow n x → (v : ℕ) → v < node_count n → excess n x v ≡ pos 0
flow_even n x f v h = grind (arith, ints)

pub flow_bounded : (n : Net) (x : List ℕ) → Flow n x → Bounded n.roads x
flow_bounded n x f = record { long = f.long; low = f.low; high = f.high }

pub even_flow : (n : Net) (x : List ℕ) → Bounded n.roads x → ((v : ℕ) → v < node_count n → excess n x v ≡ pos 0) → Flow n x
even_flow n x b e = record {
  long = b.long;
  low = b.low;
  high = b.high;
  kept = λ v h. go (stock_at n.stocks v) (pos (outflow n.roads (on x) v) -ℤ pos (inflow n.roads (on x) v)) (e v h);
}
  where
    go : (s t : ℤ) → s -ℤ t ≡ pos 0 → t ≡ s
    go s t e = omega (arith, ints)

-- sums of whole numbers that differ in one term
sum_change : (m : ℕ) (f g : ℕ → ℤ) (i : ℕ) → i < m → ((j : ℕ) → j < m → j ≢ i → f j ≡ g j) → sum plain m f +ℤ g i ≡ sum plain m g +ℤ f i
sum_change zero f g i h same = absurd (omega arith)
sum_change (suc m) f g i h same = go (ℕ_discrete i m) (λ k. sum_change m f g i k (λ j a b. same j (omega arith) b))
  where
    F : ℤ
    F = sum plain m f

    G : ℤ
    G = sum plain m g

    swap : (a b x y : ℤ) → a ≡ b → a +ℤ x +ℤ y ≡ b +ℤ y +ℤ x
    swap a b x y e = omega (arith, ints)

    move : (a b x y z : ℤ) → a +ℤ y ≡ b +ℤ x → a +ℤ z +ℤ y ≡ b +ℤ z +ℤ x
    move a b x y z e = omega (arith, ints)

    go : Dec (i ≡ m) → (i < m → F +ℤ g i ≡ G +ℤ f i) → F +ℤ f m +ℤ g i ≡ G +ℤ g m +ℤ f i
    go (yes e) r =
        let s : F ≡ G = S.sum_same plain_ordered m f g (λ j a. same j (omega arith) (λ q. omega arith)) in
        subst (λ k. F +ℤ f m +ℤ g k ≡ G +ℤ g m +ℤ f k) (sym e) (swap F G (f m) (g m) s)
    go (no d) r =
        let k : i < m = omega arith in
        let q : f m ≡ g m = same m (omega arith) (λ u. d (sym u)) in
        subst (λ z. F +ℤ f m +ℤ g i ≡ G +ℤ z +ℤ f i) q (move F G (f i) (g i) (f m) (r k))

-- ---- one push

module _ (n : Net) (x : List ℕ) (s : Step) (d : ℕ) (inside : s.arc < arc_count n) (B : Bounded n.roads x) (wide : d ≤ room n.roads x s) where
  short : s.arc < length x
  short = subst (λ z. s.arc < z) (sym B.long) inside

  -- what the arc then carries
  abbrev after : ℕ
  after = cond (along s.from) (on x s.arc + d) (on x s.arc - d)

  after_here : on (pushed x s d) s.arc ≡ after
  after_here = get_or-set_same x s.arc after 0 short

  after_else : (a : ℕ) → a ≢ s.arc → on (pushed x s d) a ≡ on x a
  after_else a e = get_or-set_other x s.arc a after 0 e

  pub push_bounded : Bounded n.roads (pushed x s d)
  push_bounded = record {
    long = length-set x s.arc after ∙ B.long;
    low = λ a k. low a k (ℕ_discrete a s.arc);
    high = λ a k. high a k (ℕ_discrete a s.arc);
  }
    where
      at_low : (c : Bool) (y l m : ℕ) → l ≤ y → d ≤ cond c (m - y) (y - l) → l ≤ cond c (y + d) (y - d)
      at_low c y l m p q = grind (arith, ints)

      at_high : (c : Bool) (y l m : ℕ) → y ≤ m → d ≤ cond c (m - y) (y - l) → cond c (y + d) (y - d) ≤ m
      at_high c y l m p q = grind (arith, ints)

      low : (a : ℕ) → a < arc_count n → Dec (a ≡ s.arc) → (road_at n.roads a).least ≤ on (pushed x s d) a
      low a k (yes e) =
          subst (λ (b : ℕ). (road_at n.roads b).least ≤ on (pushed x s d) b) (sym e)
          (subst (λ (y : ℕ). (road_at n.roads s.arc).least ≤ y) (sym after_here) (at_low (along s.from) (on x s.arc) (road_at n.roads s.arc).least (road_at n.roads s.arc).most (B.low s.arc inside) wide))
      low a k (no e) = subst (λ (y : ℕ). (road_at n.roads a).least ≤ y) (sym (after_else a e)) (B.low a k)

      high : (a : ℕ) → a < arc_count n → Dec (a ≡ s.arc) → on (pushed x s d) a ≤ (road_at n.roads a).most
      high a k (yes e) =
          subst (λ (b : ℕ). on (pushed x s d) b ≤ (road_at n.roads b).most) (sym e)
          (subst (λ (y : ℕ). y ≤ (road_at n.roads s.arc).most) (sym after_here) (at_high (along s.from) (on x s.arc) (road_at n.roads s.arc).least (road_at n.roads s.arc).most (B.high s.arc inside) wide))
      high a k (no e) = subst (λ (y : ℕ). y ≤ (road_at n.roads a).most) (sym (after_else a e)) (B.high a k)

  -- at one end of the arcs
  end_change : (end : ℕ → ℕ) (v : ℕ)
      → total (arc_count n) (λ a. cond (eqb (end a) v) (on (pushed x s d) a) 0) + cond (eqb (end s.arc) v) (on x s.arc) 0 ≡ total (arc_count n) (λ a. cond (eqb (end a) v) (on x a) 0) + cond (eqb (end s.arc) v) after 0
  end_change end v =
      total_change (arc_count n) (λ a. cond (eqb (end a) v) (on (pushed x s d) a) 0) (λ a. cond (eqb (end a) v) (on x a) 0) s.arc inside (λ j a e. ap (λ (y : ℕ). cond (eqb (end j) v) y 0) (after_else j e))
      ∙ ap (λ (y : ℕ). total (arc_count n) (λ a. cond (eqb (end a) v) (on x a) 0) + cond (eqb (end s.arc) v) y 0) after_here

  push_excess : (v : ℕ) → excess n (pushed x s d) v ≡ (excess n x v -ℤ at (start n.roads s) v d) +ℤ at (finish n.roads s) v d
  push_excess v =
      go s.from (road_at n.roads s.arc) (on x s.arc) (stock_at n.stocks v)
      (outflow n.roads (on (pushed x s d)) v) (outflow n.roads (on x) v) (inflow n.roads (on (pushed x s d)) v) (inflow n.roads (on x) v) (B.low s.arc inside) wide
      (end_change (λ a. (road_at n.roads a).tail) v) (end_change (λ a. (road_at n.roads a).head) v)
    where
      by : (b t h : Bool) (y l m : ℕ) (e : ℤ) (o o' i i' : ℕ) → l ≤ y → d ≤ cond b (m - y) (y - l)
          → o + cond t y 0 ≡ o' + cond t (cond b (y + d) (y - d)) 0 → i + cond h y 0 ≡ i' + cond h (cond b (y + d) (y - d)) 0
          → e -ℤ (pos o -ℤ pos i) ≡ ((e -ℤ (pos o' -ℤ pos i')) -ℤ pos (cond (cond b t h) d 0)) +ℤ pos (cond (cond b h t) d 0)
      by true true true y l m e o o' i i' p q f g = omega (arith, ints)
      by true true false y l m e o o' i i' p q f g = omega (arith, ints)
      by true false true y l m e o o' i i' p q f g = omega (arith, ints)
      by true false false y l m e o o' i i' p q f g = omega (arith, ints)
      by false true true y l m e o o' i i' p q f g = omega (arith, ints)
      by false true false y l m e o o' i i' p q f g = omega (arith, ints)
      by false false true y l m e o o' i i' p q f g = omega (arith, ints)
      by false false false y l m e o o' i i' p q f g = omega (arith, ints)

      go : (f : End) (r : Road) (y : ℕ) (e : ℤ) (o o' i i' : ℕ) → r.least ≤ y → d ≤ cond (along f) (r.most - y) (y - r.least)
          → o + cond (eqb r.tail v) y 0 ≡ o' + cond (eqb r.tail v) (cond (along f) (y + d) (y - d)) 0 → i + cond (eqb r.head v) y 0 ≡ i' + cond (eqb r.head v) (cond (along f) (y + d) (y - d)) 0
          → e -ℤ (pos o -ℤ pos i) ≡ ((e -ℤ (pos o' -ℤ pos i')) -ℤ pos (cond (eqb (end_node f r) v) d 0)) +ℤ pos (cond (eqb (end_node (other_end f) r) v) d 0)
      go Tail r y e o o' i i' p q f g = by true (eqb r.tail v) (eqb r.head v) y r.least r.most e o o' i i' p q f g
      go Head r y e o o' i i' p q f g = by false (eqb r.tail v) (eqb r.head v) y r.least r.most e o o' i i' p q f g

  pub push_moved : Moved n x (pushed x s d) (start n.roads s) (finish n.roads s) d
  push_moved = record { bounded = push_bounded; moved = λ v h. push_excess v }

  -- what the row is worth, in one part of the worths
  pub push_worth : (w : ℕ → ℤ) → worth_of plain n w (pushed x s d) ≡ worth_of plain n w x +ℤ pos d *ℤ step_worth w s
  push_worth w =
      fin (along s.from) (on x s.arc) (road_at n.roads s.arc).least (road_at n.roads s.arc).most (w s.arc) (worth_of plain n w (pushed x s d)) (worth_of plain n w x) (B.low s.arc inside) wide
      (ap (λ z. worth_of plain n w (pushed x s d) +ℤ z) (sym (times_product (on x s.arc) (w s.arc)))
      ∙ sum_change (arc_count n) (λ a. times plain (on (pushed x s d) a) (w a)) (λ a. times plain (on x a) (w a)) s.arc inside (λ j a e. ap (λ (y : ℕ). times plain y (w j)) (after_else j e))
      ∙ ap (λ z. worth_of plain n w x +ℤ z) (ap (λ (y : ℕ). times plain y (w s.arc)) after_here ∙ times_product after (w s.arc)))
    where
      split : (y z : ℕ) (u : ℤ) → y ≡ z + d → pos y *ℤ u ≡ pos z *ℤ u +ℤ pos d *ℤ u
      split y z u e = ap (λ k. k *ℤ u) (both y z e) ∙ omega (arith, poly)
        where
          both : (y z : ℕ) → y ≡ z + d → pos y ≡ pos z +ℤ pos d
          both y z e = omega (arith, ints)

      neg_product : (a u : ℤ) → a *ℤ neg_ℤ u ≡ neg_ℤ (a *ℤ u)
      neg_product a u = omega (arith, poly)

      more : (P Q u v t : ℤ) → P +ℤ u ≡ Q +ℤ t → t ≡ u +ℤ v → P ≡ Q +ℤ v
      more P Q u v t p q = omega (arith, ints)

      less : (P Q u v t m : ℤ) → P +ℤ t ≡ Q +ℤ u → t ≡ u +ℤ v → m ≡ neg_ℤ v → P ≡ Q +ℤ m
      less P Q u v t m p q r = omega (arith, ints)

      fin : (b : Bool) (y l m : ℕ) (u P Q : ℤ) → l ≤ y → d ≤ cond b (m - y) (y - l) → P +ℤ pos y *ℤ u ≡ Q +ℤ pos (cond b (y + d) (y - d)) *ℤ u → P ≡ Q +ℤ pos d *ℤ cond b u (neg_ℤ u)
      fin true y l m u P Q p q h = more P Q (pos y *ℤ u) (pos d *ℤ u) (pos (y + d) *ℤ u) h (split (y + d) y u refl)
      fin false y l m u P Q p q h = less P Q (pos (y - d) *ℤ u) (pos d *ℤ u) (pos y *ℤ u) (pos d *ℤ neg_ℤ u) h (split y (y - d) u (omega arith)) (neg_product (pos d) u)

  -- the room of other arcs stays; on this one it falls this way and rises the other
  pub room_else : (l : Step) → l.arc ≢ s.arc → room n.roads (pushed x s d) l ≡ room n.roads x l
  room_else l e = ap (λ (y : ℕ). cond (along l.from) ((road_at n.roads l.arc).most - y) (y - (road_at n.roads l.arc).least)) (after_else l.arc e)

  pub room_this : room n.roads (pushed x s d) s + d ≡ room n.roads x s
  room_this =
      ap (λ (y : ℕ). cond (along s.from) ((road_at n.roads s.arc).most - y) (y - (road_at n.roads s.arc).least) + d) after_here
      ∙ go (along s.from) (on x s.arc) (road_at n.roads s.arc).least (road_at n.roads s.arc).most (B.low s.arc inside) wide
    where
      go : (b : Bool) (y l m : ℕ) → l ≤ y → d ≤ cond b (m - y) (y - l) → cond b (m - cond b (y + d) (y - d)) (cond b (y + d) (y - d) - l) + d ≡ cond b (m - y) (y - l)
      go b y l m p q = grind (arith, ints)

  pub room_back : room n.roads (pushed x s d) (flip s) ≡ room n.roads x (flip s) + d
  room_back =
      ap (λ (y : ℕ). cond (along (other_end s.from)) ((road_at n.roads s.arc).most - y) (y - (road_at n.roads s.arc).least)) after_here
      ∙ go s.from (on x s.arc) (road_at n.roads s.arc).least (road_at n.roads s.arc).most (B.low s.arc inside) (B.high s.arc inside) wide
    where
      go : (f : End) (y l m : ℕ) → l ≤ y → y ≤ m → d ≤ cond (along f) (m - y) (y - l)
          → cond (along (other_end f)) (m - cond (along f) (y + d) (y - d)) (cond (along f) (y + d) (y - d) - l) ≡ cond (along (other_end f)) (m - y) (y - l) + d
      go Tail y l m p r q = omega arith
      go Head y l m p r q = omega arith

-- ---- one move after another

pub moved_on : (n : Net) (x y z : List ℕ) (u v w d : ℕ) → Moved n x y u v d → Moved n y z v w d → Moved n x z u w d
moved_on n x y z u v w d p q = record { bounded = q.bounded; moved = λ t h. go (excess n x t) (excess n y t) (excess n z t) (at u t d) (at v t d) (at w t d) (p.moved t h) (q.moved t h) }
  where
    go : (a b c e f g : ℤ) → b ≡ (a -ℤ e) +ℤ f → c ≡ (b -ℤ f) +ℤ g → c ≡ (a -ℤ e) +ℤ g
    go a b c e f g p q = omega (arith, ints)

-- a move to where it came from leaves a flow
pub moved_round : (n : Net) (x y : List ℕ) (u d : ℕ) → Flow n x → Moved n x y u u d → Flow n y
moved_round n x y u d f m = even_flow n y m.bounded (λ v h. go (excess n x v) (excess n y v) (at u v d) (flow_even n x f v h) (m.moved v h))
  where
    go : (a b c : ℤ) → a ≡ pos 0 → b ≡ (a -ℤ c) +ℤ c → b ≡ pos 0
    go a b c p q = omega (arith, ints)
