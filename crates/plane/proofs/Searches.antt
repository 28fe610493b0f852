-- The search for the corner after a: its start, one turn of it, and where it ends.
use Rattle.std.proofs.Common.{◌≡◌, pos, ◌*ℤ◌, ◌≤ℤ◌, ◌<ℤ◌, ap, arith}
use Rattle.std.proofs.lemmas.Int.{by_lt_z}
use Rattle.numbers.proofs.Products.{lin, mul_le, mul_lt, lt_of_mul, le_of_mul}
use Rattle.plane.specs.Points.{Point, first, second, weigh, turn_p, turn_q, Corner, Least}
use Rattle.plane.specs.Lists.{After, Candidate}
use Rattle.plane.specs.Facts.{StepOf, StartOf, SearchOf}
use Rattle.plane.proofs.Sides.{same_point, weigh_second, lies_left, lies_right, lies_not_right, alike, share_most, share_above}
use Rattle.plane.proofs.Minima.{sought_corner}
use Rattle.plane.proofs.Corners.{none_between}

-- c comes after a where no point is lighter than both at their turning weights
pub after_turn : (P : Point → Type 0) (a c : Point) → P a → Corner P c → a.0 <ℤ c.0 → c.1 <ℤ a.1
    → ((y : Point) → P y → weigh (turn_p a c) (turn_q a c) c ≤ℤ weigh (turn_p a c) (turn_q a c) y) → After P a c
after_turn P a c ha k right below lightest = record {
  corner = k;
  right = right;
  below = below;
  between = between;
}
  where
    between : (z : Point) → Corner P z → a.0 <ℤ z.0 → z.0 <ℤ c.0 → ⊥
    between z m =
        let c_most : weigh (turn_p a c) (turn_q a c) c ≤ℤ weigh (turn_p a c) (turn_q a c) z = lightest z m.stands in
        none_between P (turn_p a c) (turn_q a c) a c z (omega (arith, lin)) ha k.stands (omega (arith, lin, alike a c)) c_most m

pub step_of : (P : Point → Type 0) → StepOf P
step_of P B a c w ha right below l =
    after_turn P a c ha (sought_corner B P (turn_p a c) (turn_q a c) c w (omega (arith, lin)) (omega (arith, lin)) l) right below l.least

-- ---- the start, at the minimum by (second, first)

module _ (P : Point → Type 0) (a e : Point) (k : Corner P a) (l : Least P second first e) (n : ¬ (e ≡ a)) where
  more : weigh k.p k.q a <ℤ weigh k.p k.q e
  more = k.alone e l.stands n

  end_below : e.1 <ℤ a.1
  end_below = by_lt_z e.1 a.1 (λ below. below) not_below
    where
      not_below : a.1 ≤ℤ e.1 → e.1 <ℤ a.1
      not_below h =
          let f : a.1 ≡ e.1 = omega (arith, lin, l.least a k.stands) in
          let g : (k.p *ℤ e.0) ≤ℤ (k.p *ℤ a.0) = mul_le k.p e.0 a.0 (omega (arith, lin, k.p_above)) (l.tie a k.stands f) in
          omega (arith, lin, more, ap (λ x. k.q *ℤ x) f)

  end_right : a.0 <ℤ e.0
  end_right =
      let s_less : (k.q *ℤ e.1) <ℤ (k.q *ℤ a.1) = mul_lt k.q e.1 a.1 k.q_above end_below in
      lt_of_mul k.p a.0 e.0 (omega (arith, lin, k.p_above)) (omega (arith, lin, more))

pub start_of : (P : Point → Type 0) → StartOf P
start_of P a e k l n = record {
  stands = l.stands;
  right = end_right P a e k l n;
  below = end_below P a e k l n;
  p = pos 0;
  q = pos 1;
  q_above = omega (arith, lin);
  lightest = λ y h. omega (arith, lin, weigh_second e, weigh_second y, l.least y h);
  lighter = omega (arith, lin, weigh_second e, weigh_second a, end_below P a e k l n);
}

-- ---- one turn, from the candidate b to the least c at the turning weights to b

module _ (P : Point → Type 0) (a b c : Point) (k : Corner P a) (d : Candidate P a b) (l : Least P (weigh (turn_p a b) (turn_q a b)) second c) where
  p_above : pos 0 <ℤ turn_p a b
  p_above = omega (arith, lin, d.below)

  q_above : pos 0 <ℤ turn_q a b
  q_above = omega (arith, lin, d.right)

  q_from : pos 0 ≤ℤ turn_q a b
  q_from = omega (arith, lin, q_above)

  -- c is the candidate again
  not_beyond : weigh (turn_p a b) (turn_q a b) c ≤ℤ weigh (turn_p a b) (turn_q a b) b → c.0 ≤ℤ b.0
  not_beyond no_more =
      let share : (d.p *ℤ turn_q a b) <ℤ (d.q *ℤ turn_p a b) = share_above d.p d.q a b d.lighter in
      lies_not_right d.p d.q (turn_p a b) (turn_q a b) b c (omega (arith, lin, d.q_above)) q_from (d.lightest c l.stands) no_more share

  found : weigh (turn_p a b) (turn_q a b) c ≡ weigh (turn_p a b) (turn_q a b) a → c ≡ b
  found e =
      let p_from : pos 0 ≤ℤ turn_p a b = omega (arith, lin, p_above) in
      let level : weigh (turn_p a b) (turn_q a b) b ≡ weigh (turn_p a b) (turn_q a b) c = omega (arith, lin, alike a b) in
      let s_most : c.1 ≤ℤ b.1 = l.tie b d.stands level in
      let f_most : c.0 ≤ℤ b.0 = not_beyond (omega (arith, lin)) in
      let f_from : b.0 ≤ℤ c.0 = le_of_mul (turn_p a b) b.0 c.0 p_above (omega (arith, lin, level, mul_le (turn_q a b) c.1 b.1 q_from s_most)) in
      let s_from : b.1 ≤ℤ c.1 = le_of_mul (turn_q a b) b.1 c.1 q_above (omega (arith, lin, level, mul_le (turn_p a b) c.0 b.0 p_from f_most)) in
      same_point c b (omega (arith, lin)) (omega (arith, lin))

  -- or it is lighter, and lies between a and the candidate
  module _ (less : weigh (turn_p a b) (turn_q a b) c <ℤ weigh (turn_p a b) (turn_q a b) a) where
    right_of_a : a.0 <ℤ c.0
    right_of_a =
        let c_more : weigh k.p k.q a <ℤ weigh k.p k.q c = k.alone c l.stands (λ e. omega (arith, lin, ap (weigh (turn_p a b) (turn_q a b)) e)) in
        let b_more : weigh k.p k.q a <ℤ weigh k.p k.q b = k.alone b d.stands (λ e. omega (arith, lin, d.right, ap first e)) in
        let share : (k.q *ℤ turn_p a b) ≤ℤ (k.p *ℤ turn_q a b) = share_most k.p k.q a b (omega (arith, lin)) in
        lies_right k.p k.q (turn_p a b) (turn_q a b) a c k.q_above q_from (omega (arith, lin)) less share

    below_a : c.1 <ℤ a.1
    below_a = lt_of_mul (turn_q a b) c.1 a.1 q_from (omega (arith, lin, mul_lt (turn_p a b) a.0 c.0 p_above right_of_a))

    left_of_b : c.0 <ℤ b.0
    left_of_b =
        let share : (d.p *ℤ turn_q a b) <ℤ (d.q *ℤ turn_p a b) = share_above d.p d.q a b d.lighter in
        let less_b : weigh (turn_p a b) (turn_q a b) c <ℤ weigh (turn_p a b) (turn_q a b) b = omega (arith, lin, alike a b) in
        lies_left d.p d.q (turn_p a b) (turn_q a b) b c d.q_above q_from (d.lightest c l.stands) less_b (omega (arith, lin))

    nearer : Candidate P a c
    nearer = record {
      stands = l.stands;
      right = right_of_a;
      below = below_a;
      p = turn_p a b;
      q = turn_q a b;
      q_above = q_above;
      lightest = l.least;
      lighter = less;
    }

pub search_of : (P : Point → Type 0) → SearchOf P
search_of P a b c k d l = (found P a b c k d l, λ less. (nearer P a b c k d l less, left_of_b P a b c k d l less))
