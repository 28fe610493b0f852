-- How corners lie to one another, and that they go with the points.
use Rattle.std.proofs.Common.{◌≡◌, ℤ, pos, ◌*ℤ◌, ◌≤ℤ◌, ◌<ℤ◌, sym, ap, arith}
use Rattle.std.proofs.lemmas.Int.{by_lt_z}
use Rattle.numbers.proofs.Products.{lin, mul_le, mul_lt, lt_of_mul}
use Rattle.plane.specs.Points.{Point, first, second, swap, weigh, Corner, Least}
use Rattle.plane.proofs.Sides.{point_decide, lies_left, lies_right}

-- further right is further down
pub corner_falls : (P : Point → Type 0) (y z : Point) → Corner P y → Corner P z → y.0 <ℤ z.0 → z.1 <ℤ y.1
corner_falls P y z k m right =
    let less : weigh m.p m.q z <ℤ weigh m.p m.q y = m.alone y k.stands (λ e. omega (arith, lin, ap first e)) in
    lt_of_mul m.q z.1 y.1 (omega (arith, lin, m.q_above)) (omega (arith, lin, mul_lt m.p y.0 z.0 m.p_above right))

-- corners with one first cost are one
pub same_first : (P : Point → Type 0) (y z : Point) → Corner P y → Corner P z → y.0 ≡ z.0 → y ≡ z
same_first P y z k m e = by (point_decide y z)
  where
    lower : (a b : Point) (c : Corner P a) → P b → ¬ (b ≡ a) → a.0 ≡ b.0 → a.1 <ℤ b.1
    lower a b c h n f = lt_of_mul c.q a.1 b.1 (omega (arith, lin, c.q_above)) (omega (arith, lin, c.alone b h n, ap (λ x. c.p *ℤ x) f))

    by : Dec (y ≡ z) → y ≡ z
    by (yes f) = f
    by (no n) = absurd (omega (arith, lin, lower y z k m.stands (λ f. n (sym f)) e, lower z y m k.stands n (sym e)))

-- no corner lies right of the minimum by (second, first)
pub none_right : (P : Point → Type 0) (e z : Point) → Least P second first e → Corner P z → z.0 ≤ℤ e.0
none_right P e z l k = by_lt_z e.0 z.0 right (λ not_right. not_right)
  where
    right : e.0 <ℤ z.0 → z.0 ≤ℤ e.0
    right h =
        let more : weigh k.p k.q z <ℤ weigh k.p k.q e = k.alone e l.stands (λ f. omega (arith, lin, ap first f)) in
        let s_less : (k.q *ℤ e.1) ≤ℤ (k.q *ℤ z.1) = mul_le k.q e.1 z.1 (omega (arith, lin, k.q_above)) (l.least z k.stands) in
        omega (arith, lin, mul_lt k.p e.0 z.0 k.p_above h)

-- nor between two points that weigh no more than it at some weights
pub none_between : (P : Point → Type 0) (p q : ℤ) (a c z : Point) → pos 0 <ℤ q → P a → P c → weigh p q a ≤ℤ weigh p q z → weigh p q c ≤ℤ weigh p q z
    → Corner P z → a.0 <ℤ z.0 → z.0 <ℤ c.0 → ⊥
none_between P p q a c z q_above ha hc a_most c_most k after before =
    let q_from : pos 0 ≤ℤ k.q = omega (arith, lin, k.q_above) in
    let a_more : weigh k.p k.q z <ℤ weigh k.p k.q a = k.alone a ha (λ e. omega (arith, lin, ap first e)) in
    let c_more : weigh k.p k.q z <ℤ weigh k.p k.q c = k.alone c hc (λ e. omega (arith, lin, ap first e)) in
    by_lt_z (q *ℤ k.p) (p *ℤ k.q)
    (λ smaller. omega (arith, lin, lies_right p q k.p k.q c z q_above q_from c_most c_more (omega (arith, lin))))
    (λ greater. omega (arith, lin, lies_left p q k.p k.q a z q_above q_from a_most a_more greater))

-- the same points have the same corners, exchanged points have them exchanged
pub corner_same : (P Q : Point → Type 0) → ((z : Point) → P z → Q z) → ((z : Point) → Q z → P z) → (z : Point) → Corner P z → Corner Q z
corner_same P Q to from z k = record {
  stands = to z k.stands;
  p = k.p;
  q = k.q;
  p_above = k.p_above;
  q_above = k.q_above;
  alone = λ y h n. k.alone y (from y h) n;
}

pub corner_swap : (P Q : Point → Type 0) → ((z : Point) → P z → Q (swap z)) → ((z : Point) → Q z → P (swap z)) → (z : Point) → Corner P z → Corner Q (swap z)
corner_swap P Q to from z k = record {
  stands = to z k.stands;
  p = k.q;
  q = k.p;
  p_above = k.q_above;
  q_above = k.p_above;
  alone = λ y h n. omega (arith, lin, k.alone (swap y) (from y h) (λ e. n (ap swap e)));
}
