-- The flows and points of a network under Exchange and under Floor.
use Rattle.std.proofs.Common.{◌≡◌, ℕ, zero, suc, ◌+◌, ◌-◌, ◌<◌, Bool, true, false, cond, eqb, List, [], ◌∷◌, map, length, ℤ, pos, ◌+ℤ◌, ◌-ℤ◌, ◌*ℤ◌, sym, refl, ap, ◌∙◌, subst, ap₂, zero-add, arith}
use lib.ListN.{get_or-map}
use Rattle.std.specs.List.{range_with_len}
use Rattle.std.proofs.lemmas.List.FromFn.{length-map-range_with_len, get_or-map-range_with_len}
use Rattle.std.proofs.ByRecursion.{All-get_or}
use Rattle.std.proofs.lemmas.List.{length-map}
use Rattle.std.proofs.lemmas.Int.{ints}
use Rattle.numbers.specs.Totals.{total}
use Rattle.numbers.proofs.Totals.{total_same, total_add, total_list}
use Rattle.network.specs.Arcs.{road_at, stock_at, nowhere}
use Rattle.network.specs.Exchanged.{swapped, exchanged}
use Rattle.network.specs.Floored.{lowered, leaving, arriving, stock_left, least_cost, floored}
use Rattle.network.specs.Net.{Net, Lawful, node_count, arc_count}
use Rattle.network.specs.Roads.{Passable}
use Rattle.network.specs.declared.road.Road.{Road}
use Rattle.network.proofs.Floored.{length_left, get_or_left}
use Rattle.worths.specs.Kinds.{plain, sum}
use Rattle.worths.specs.Laws.{plain_ordered}
use Rattle.plane.specs.Points.{Point, swap}
use Rattle.flows.specs.Flows.{Flow, on, outflow, inflow, cost_of, point, Points, first_cost, second_cost}
use Rattle.flows.proofs.Sums as S

-- ---- a network whose every arc carries so many chests more than one of another network

-- n is m, but each arc a of n has l a chests on it beforehand, which its bounds and the stocks account for
record Lifted (n m : Net) (l : ℕ → ℕ) : Type 0 where
  nodes : node_count m ≡ node_count n
  arcs : arc_count m ≡ arc_count n
  tail : (a : ℕ) → a < arc_count n → (road_at m.roads a).tail ≡ (road_at n.roads a).tail
  head : (a : ℕ) → a < arc_count n → (road_at m.roads a).head ≡ (road_at n.roads a).head
  least : (a : ℕ) → a < arc_count n → (road_at n.roads a).least ≡ (road_at m.roads a).least + l a
  most : (a : ℕ) → a < arc_count n → (road_at n.roads a).most ≡ (road_at m.roads a).most + l a
  stock : (v : ℕ) → v < node_count n → stock_at n.stocks v ≡ stock_at m.stocks v +ℤ (pos (outflow n.roads l v) -ℤ pos (inflow n.roads l v))

-- x is y with those chests on top
record Raised (n : Net) (l : ℕ → ℕ) (y x : List ℕ) : Type 0 where
  long : length y ≡ length x
  each : (a : ℕ) → a < arc_count n → on x a ≡ on y a + l a

-- at one end of the arcs
ends_raised : (k : ℕ) (end end' x y l : ℕ → ℕ) (v : ℕ) → ((a : ℕ) → a < k → end' a ≡ end a) → ((a : ℕ) → a < k → x a ≡ y a + l a)
    → total k (λ a. cond (eqb (end a) v) (x a) 0) ≡ total k (λ a. cond (eqb (end' a) v) (y a) 0) + total k (λ a. cond (eqb (end a) v) (l a) 0)
ends_raised k end end' x y l v same each =
    total_same k _ (λ a. cond (eqb (end' a) v) (y a) 0 + cond (eqb (end a) v) (l a) 0)
    (λ a j.
    ap (λ (u : ℕ). cond (eqb (end a) v) u 0) (each a j)
    ∙ split (eqb (end a) v) (y a) (l a)
    ∙ ap (λ (u : ℕ). cond (eqb u v) (y a) 0 + cond (eqb (end a) v) (l a) 0) (sym (same a j)))
    ∙ total_add k (λ a. cond (eqb (end' a) v) (y a) 0) (λ a. cond (eqb (end a) v) (l a) 0)
  where
    split : (b : Bool) (y l : ℕ) → cond b (y + l) 0 ≡ cond b y 0 + cond b l 0
    split b y l = grind (arith, ints)

module _ (n m : Net) (l : ℕ → ℕ) (F : Lifted n m l) (y x : List ℕ) (R : Raised n l y x) where
  out_raised : (v : ℕ) → outflow n.roads (on x) v ≡ outflow m.roads (on y) v + outflow n.roads l v
  out_raised v =
      ends_raised (arc_count n) (λ a. (road_at n.roads a).tail) (λ a. (road_at m.roads a).tail) (on x) (on y) l v F.tail R.each
      ∙ ap (λ (k : ℕ). total k (λ a. cond (eqb (road_at m.roads a).tail v) (on y a) 0) + outflow n.roads l v) (sym F.arcs)

  in_raised : (v : ℕ) → inflow n.roads (on x) v ≡ inflow m.roads (on y) v + inflow n.roads l v
  in_raised v =
      ends_raised (arc_count n) (λ a. (road_at n.roads a).head) (λ a. (road_at m.roads a).head) (on x) (on y) l v F.head R.each
      ∙ ap (λ (k : ℕ). total k (λ a. cond (eqb (road_at m.roads a).head v) (on y a) 0) + inflow n.roads l v) (sym F.arcs)

  flow_up : Flow m y → Flow n x
  flow_up f = record {
    long = sym R.long ∙ f.long ∙ F.arcs;
    low = λ a k. let j : a < arc_count m = subst (λ c. a < c) (sym F.arcs) k in omega (arith, R.each a k, F.least a k, f.low a j);
    high = λ a k. let j : a < arc_count m = subst (λ c. a < c) (sym F.arcs) k in omega (arith, R.each a k, F.most a k, f.high a j);
    kept = λ v k. go (outflow n.roads (on x) v) (inflow n.roads (on x) v) (outflow m.roads (on y) v) (inflow m.roads (on y) v) (outflow n.roads l v) (inflow n.roads l v)
        (stock_at n.stocks v) (stock_at m.stocks v) (out_raised v) (in_raised v) (f.kept v (subst (λ c. v < c) (sym F.nodes) k)) (F.stock v k);
  }
    where
      go : (a b c d e f : ℕ) (s t : ℤ) → a ≡ c + e → b ≡ d + f → pos c -ℤ pos d ≡ t → s ≡ t +ℤ (pos e -ℤ pos f) → pos a -ℤ pos b ≡ s
      go a b c d e f s t p q r h = omega (arith, ints)

  flow_down : Flow n x → Flow m y
  flow_down f = record {
    long = R.long ∙ f.long ∙ sym F.arcs;
    low = λ a k. let j : a < arc_count n = subst (λ c. a < c) F.arcs k in omega (arith, R.each a j, F.least a j, f.low a j);
    high = λ a k. let j : a < arc_count n = subst (λ c. a < c) F.arcs k in omega (arith, R.each a j, F.most a j, f.high a j);
    kept = λ v k. let j : v < node_count n = subst (λ c. v < c) F.nodes k in
        go (outflow n.roads (on x) v) (inflow n.roads (on x) v) (outflow m.roads (on y) v) (inflow m.roads (on y) v) (outflow n.roads l v) (inflow n.roads l v)
        (stock_at n.stocks v) (stock_at m.stocks v) (out_raised v) (in_raised v) (f.kept v j) (F.stock v j);
  }
    where
      go : (a b c d e f : ℕ) (s t : ℤ) → a ≡ c + e → b ≡ d + f → pos a -ℤ pos b ≡ s → s ≡ t +ℤ (pos e -ℤ pos f) → pos c -ℤ pos d ≡ t
      go a b c d e f s t p q r h = omega (arith, ints)

-- ---- Exchange: the same flows, exchanged points

none : ℕ → ℕ
none a = 0

exchanged_road : (n : Net) (a : ℕ) → road_at (exchanged n).roads a ≡ swapped (road_at n.roads a)
exchanged_road n a = get_or-map swapped n.roads a nowhere

exchanged_arcs : (n : Net) → arc_count (exchanged n) ≡ arc_count n
exchanged_arcs n = length-map n.roads swapped

nothing_lifted : (n : Net) → Lifted n (exchanged n) none
unfolding none
nothing_lifted n = record {
  nodes = refl;
  arcs = exchanged_arcs n;
  tail = λ a k. ap (λ (r : Road). r.tail) (exchanged_road n a);
  head = λ a k. ap (λ (r : Road). r.head) (exchanged_road n a);
  least = λ a k. omega (arith, ap (λ (r : Road). r.least) (exchanged_road n a));
  most = λ a k. omega (arith, ap (λ (r : Road). r.most) (exchanged_road n a));
  stock = λ v k. go (stock_at n.stocks v) (outflow n.roads none v) (inflow n.roads none v) (zeros (λ a. (road_at n.roads a).tail) v (arc_count n)) (zeros (λ a. (road_at n.roads a).head) v (arc_count n));
}
  where
    zeros : (end : ℕ → ℕ) (v k : ℕ) → total k (λ a. cond (eqb (end a) v) 0 0) ≡ 0
    zeros end v zero = refl
    zeros end v (suc k) = ap₂ (λ a b. a + b) (zeros end v k) (either (eqb (end k) v))
      where
        either : (b : Bool) → ◌≡◌ {A = ℕ} (cond b 0 0) 0
        either true = refl
        either false = refl

    go : (s : ℤ) (o i : ℕ) → o ≡ 0 → i ≡ 0 → s ≡ s +ℤ (pos o -ℤ pos i)
    go s o i p q = omega (arith, ints)

nothing_raised : (n : Net) (x : List ℕ) → Raised n none x x
unfolding none
nothing_raised n x = record { long = refl; each = λ a k. omega arith }

exchanged_cost : (n : Net) (cost cost' : Road → ℤ) (x : List ℕ) → ((r : Road) → cost (swapped r) ≡ cost' r) → cost_of cost (exchanged n).roads (on x) ≡ cost_of cost' n.roads (on x)
exchanged_cost n cost cost' x e =
    ap (λ (k : ℕ). sum plain k (λ a. pos (on x a) *ℤ cost (road_at (exchanged n).roads a))) (exchanged_arcs n)
    ∙ S.sum_same plain_ordered (arc_count n) _ (λ a. pos (on x a) *ℤ cost' (road_at n.roads a)) (λ a k. ap (λ z. pos (on x a) *ℤ z) (ap cost (exchanged_road n a) ∙ e (road_at n.roads a)))

pub exchanged_point : (n : Net) (x : List ℕ) → point (exchanged n) x ≡ swap (point n x)
exchanged_point n x i = (n.fixed.1 +ℤ exchanged_cost n first_cost second_cost x (λ r. refl) i, n.fixed.0 +ℤ exchanged_cost n second_cost first_cost x (λ r. refl) i)

pub exchange_points : (n : Net) (z : Point) → Points n z → Points (exchanged n) (swap z)
exchange_points n z h = record {
  flow = h.flow;
  flows = flow_down n (exchanged n) none (nothing_lifted n) h.flow h.flow (nothing_raised n h.flow) h.flows;
  here = exchanged_point n h.flow ∙ ap swap h.here;
}

pub exchange_points_back : (n : Net) (z : Point) → Points (exchanged n) z → Points n (swap z)
exchange_points_back n z h = record {
  flow = h.flow;
  flows = flow_up n (exchanged n) none (nothing_lifted n) h.flow h.flow (nothing_raised n h.flow) h.flows;
  here = ap swap (sym (exchanged_point n h.flow) ∙ h.here);
}

-- ---- Floor: each flow less the leasts, the same points

leasts : Net → ℕ → ℕ
leasts n a = (road_at n.roads a).least

floored_road : (n : Net) (a : ℕ) → road_at (floored n).roads a ≡ lowered (road_at n.roads a)
floored_road n a = get_or-map lowered n.roads a nowhere

floored_arcs : (n : Net) → arc_count (floored n) ≡ arc_count n
floored_arcs n = length-map n.roads lowered

leasts_lifted : (n : Net) → Lawful n → Lifted n (floored n) (leasts n)
unfolding leasts
leasts_lifted n ok = record {
  nodes = length_left n.roads 0 n.stocks;
  arcs = floored_arcs n;
  tail = λ a k. ap (λ (r : Road). r.tail) (floored_road n a);
  head = λ a k. ap (λ (r : Road). r.head) (floored_road n a);
  least = λ a k. omega (arith, ap (λ (r : Road). r.least) (floored_road n a));
  most = λ a k. omega (arith, ap (λ (r : Road). r.most) (floored_road n a), (All-get_or Passable n.roads a nowhere k ok.passable).room);
  stock = λ v k. go (stock_at n.stocks v) (stock_at (floored n).stocks v) (outflow n.roads (leasts n) v) (inflow n.roads (leasts n) v) (leaving v n.roads) (arriving v n.roads)
      (get_or_left n.roads 0 v n.stocks k ∙ ap (λ w. stock_left n.roads w (stock_at n.stocks v)) (zero-add v))
      (total_list (λ r. cond (eqb r.tail v) r.least 0) n.roads nowhere) (total_list (λ r. cond (eqb r.head v) r.least 0) n.roads nowhere);
}
  where
    go : (s t : ℤ) (o i p q : ℕ) → t ≡ (s -ℤ pos p) +ℤ pos q → o ≡ p → i ≡ q → s ≡ t +ℤ (pos o -ℤ pos i)
    go s t o i p q e f g = omega (arith, ints)

-- what the leasts cost
leasts_cost : (cost : Road → ℤ) (roads : List Road) → cost_of cost roads (λ a. (road_at roads a).least) ≡ least_cost cost roads
leasts_cost cost [] = refl
leasts_cost cost (r ∷ rs) =
    S.sum_front plain_ordered (length rs) (λ a. pos (road_at (r ∷ rs) a).least *ℤ cost (road_at (r ∷ rs) a)) ∙ ap (λ z. pos r.least *ℤ cost r +ℤ z) (leasts_cost cost rs)

raised_cost : (n : Net) (cost : Road → ℤ) → ((r : Road) → cost (lowered r) ≡ cost r) → (y x : List ℕ) → Raised n (leasts n) y x
    → cost_of cost n.roads (on x) ≡ cost_of cost (floored n).roads (on y) +ℤ least_cost cost n.roads
unfolding leasts
raised_cost n cost same y x R =
    S.sum_same plain_ordered (arc_count n) _ (λ a. pos (on y a) *ℤ cost (road_at (floored n).roads a) +ℤ pos (leasts n a) *ℤ cost (road_at n.roads a))
    (λ a k.
    ap (λ (j : ℕ). pos j *ℤ cost (road_at n.roads a)) (R.each a k)
    ∙ split (on y a) (leasts n a) (cost (road_at n.roads a))
    ∙ ap (λ z. pos (on y a) *ℤ z +ℤ pos (leasts n a) *ℤ cost (road_at n.roads a)) (sym (ap cost (floored_road n a) ∙ same (road_at n.roads a))))
    ∙ S.sum_plus plain_ordered (arc_count n) (λ a. pos (on y a) *ℤ cost (road_at (floored n).roads a)) (λ a. pos (leasts n a) *ℤ cost (road_at n.roads a))
    ∙ ap₂ (λ s t. s +ℤ t) (ap (λ (k : ℕ). sum plain k (λ a. pos (on y a) *ℤ cost (road_at (floored n).roads a))) (sym (floored_arcs n))) (leasts_cost cost n.roads)
  where
    split : (j k : ℕ) (c : ℤ) → pos (j + k) *ℤ c ≡ pos j *ℤ c +ℤ pos k *ℤ c
    split j k c = grind (arith, ints)

raised_point : (n : Net) (y x : List ℕ) → Raised n (leasts n) y x → point n x ≡ point (floored n) y
raised_point n y x R i = (part n.fixed.0 first_cost (λ r. refl) i, part n.fixed.1 second_cost (λ r. refl) i)
  where
    part : (fixed : ℤ) (cost : Road → ℤ) → ((r : Road) → cost (lowered r) ≡ cost r) → fixed +ℤ cost_of cost n.roads (on x) ≡ (fixed +ℤ least_cost cost n.roads) +ℤ cost_of cost (floored n).roads (on y)
    part fixed cost same = ap (λ z. fixed +ℤ z) (raised_cost n cost same y x R) ∙ turn fixed (cost_of cost (floored n).roads (on y)) (least_cost cost n.roads)
      where
        turn : (a b c : ℤ) → a +ℤ (b +ℤ c) ≡ (a +ℤ c) +ℤ b
        turn a b c = omega (arith, ints)

-- the leasts put on, and taken off
more_chests : Net → List ℕ → List ℕ
more_chests n y = map (λ a. on y a + leasts n a) (range_with_len 0 (arc_count n))

fewer_chests : Net → List ℕ → List ℕ
fewer_chests n x = map (λ a. on x a - leasts n a) (range_with_len 0 (arc_count n))

raised_more : (n : Net) (y : List ℕ) → length y ≡ arc_count n → Raised n (leasts n) y (more_chests n y)
unfolding more_chests
raised_more n y e = record {
  long = e ∙ sym (length-map-range_with_len (λ a. on y a + leasts n a) 0 (arc_count n));
  each = λ a k. get_or-map-range_with_len (λ a. on y a + leasts n a) 0 (arc_count n) a a 0 k (omega arith);
}

raised_fewer : (n : Net) (x : List ℕ) → Flow n x → Raised n (leasts n) (fewer_chests n x) x
unfolding fewer_chests leasts
raised_fewer n x f = record {
  long = length-map-range_with_len (λ a. on x a - leasts n a) 0 (arc_count n) ∙ sym f.long;
  each = λ a k.
      let e : on (fewer_chests n x) a ≡ on x a - leasts n a = get_or-map-range_with_len (λ a. on x a - leasts n a) 0 (arc_count n) a a 0 k (omega arith) in
      omega (arith, f.low a k);
}

pub floor_points : (n : Net) → Lawful n → (z : Point) → Points n z → Points (floored n) z
floor_points n ok z h =
    let y = fewer_chests n h.flow in
    let R = raised_fewer n h.flow h.flows in
    record {
      flow = y;
      flows = flow_down n (floored n) (leasts n) (leasts_lifted n ok) y h.flow R h.flows;
      here = sym (raised_point n y h.flow R) ∙ h.here;
    }

pub floor_points_back : (n : Net) → Lawful n → (z : Point) → Points (floored n) z → Points n z
floor_points_back n ok z h =
    let x = more_chests n h.flow in
    let R = raised_more n h.flow (h.flows.long ∙ floored_arcs n) in
    record {
      flow = x;
      flows = flow_up n (floored n) (leasts n) (leasts_lifted n ok) h.flow x R h.flows;
      here = raised_point n h.flow x R ∙ h.here;
    }
