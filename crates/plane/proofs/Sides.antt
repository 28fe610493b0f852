-- Points and weights: what tells points apart, and on which side of one another two points lie.
use Rattle.std.proofs.Common.{◌≡◌, ℤ, pos, ◌+ℤ◌, ◌-ℤ◌, ◌*ℤ◌, ◌≤ℤ◌, ◌<ℤ◌, sym, ap, ◌∙◌, arith}
use Rattle.std.proofs.lemmas.Int.{ints}
use lib.IntN.{*ℤ_comm, zero-*ℤ}
use Rattle.std.proofs.lemmas.Int.{by_lt_z}
use Rattle.numbers.proofs.Products.{lin, poly, mul_le, mul_lt, rearrange, rearrange_lt}
use Rattle.numbers.proofs.Factors.{one_left, same_of_mul}
use Rattle.plane.specs.Points.{Point, weigh, turn_p, turn_q}

pub same_point : (y z : Point) → y.0 ≡ z.0 → y.1 ≡ z.1 → y ≡ z
same_point y z e f i = (e i, f i)

pub point_decide : (y z : Point) → Dec (y ≡ z)
point_decide y z = grind (arith, ints)

-- the costs themselves are weights
pub weigh_first : (z : Point) → weigh (pos 1) (pos 0) z ≡ z.0
weigh_first z = omega (arith, lin, one_left z.0, zero-*ℤ z.1)

pub weigh_second : (z : Point) → weigh (pos 0) (pos 1) z ≡ z.1
weigh_second z = omega (arith, lin, zero-*ℤ z.0, one_left z.1)

-- many times the one weight and once the other
pub weigh_tilted : (k p q r s : ℤ) (z : Point) → weigh (k *ℤ p +ℤ r) (k *ℤ q +ℤ s) z ≡ k *ℤ weigh p q z +ℤ weigh r s z
weigh_tilted k p q r s z = omega (arith, poly)

pub weigh_sum : (p q r s : ℤ) (z : Point) → weigh (p +ℤ r) (q +ℤ s) z ≡ weigh p q z +ℤ weigh r s z
weigh_sum p q r s z = omega (arith, poly)

-- two weights of different directions tell all points apart
pub told_apart : (p q r s : ℤ) (y z : Point) → ¬ (p *ℤ s ≡ q *ℤ r) → weigh p q y ≡ weigh p q z → weigh r s y ≡ weigh r s z → y ≡ z
told_apart p q r s y z n e f =
    let turn : ℤ = p *ℤ s -ℤ q *ℤ r in
    let turns : ¬ (turn ≡ pos 0) = λ g. n (omega (arith, lin)) in
    same_point y z
    (same_of_mul turn y.0 z.0 turns (sym (first_out y) ∙ firsts ∙ first_out z))
    (same_of_mul turn y.1 z.1 turns (sym (second_out y) ∙ seconds ∙ second_out z))
  where
    first_out : (x : Point) → s *ℤ weigh p q x -ℤ q *ℤ weigh r s x ≡ (p *ℤ s -ℤ q *ℤ r) *ℤ x.0
    first_out x = omega (arith, poly, ap (λ k. k *ℤ x.0) (*ℤ_comm s p), ap (λ k. k *ℤ x.1) (*ℤ_comm s q))

    second_out : (x : Point) → p *ℤ weigh r s x -ℤ r *ℤ weigh p q x ≡ (p *ℤ s -ℤ q *ℤ r) *ℤ x.1
    second_out x = omega (arith, poly, ap (λ k. k *ℤ x.0) (*ℤ_comm r p), ap (λ k. k *ℤ x.1) (*ℤ_comm r q))

    firsts : s *ℤ weigh p q y -ℤ q *ℤ weigh r s y ≡ s *ℤ weigh p q z -ℤ q *ℤ weigh r s z
    firsts = omega (arith, lin, ap (λ x. s *ℤ x) e, ap (λ x. q *ℤ x) f)

    seconds : p *ℤ weigh r s y -ℤ r *ℤ weigh p q y ≡ p *ℤ weigh r s z -ℤ r *ℤ weigh p q z
    seconds = omega (arith, lin, ap (λ x. p *ℤ x) f, ap (λ x. r *ℤ x) e)

-- ---- z weighs no less than o at (p, q), and less, or no more, at (r, s)

crossed_lt : (p q r s : ℤ) (o z : Point) → pos 0 <ℤ q → pos 0 ≤ℤ s → weigh p q o ≤ℤ weigh p q z → weigh r s z <ℤ weigh r s o
    → (q *ℤ r *ℤ z.0 +ℤ p *ℤ s *ℤ o.0) <ℤ (q *ℤ r *ℤ o.0 +ℤ p *ℤ s *ℤ z.0)
crossed_lt p q r s o z q_above s_from no_less less =
    omega (
      arith,
      poly,
      mul_lt q (weigh r s z) (weigh r s o) q_above less,
      mul_le s (weigh p q o) (weigh p q z) s_from no_less,
      ap (λ x. x *ℤ o.0) (*ℤ_comm s p),
      ap (λ x. x *ℤ z.0) (*ℤ_comm s p),
      ap (λ x. x *ℤ o.1) (*ℤ_comm s q),
      ap (λ x. x *ℤ z.1) (*ℤ_comm s q),
    )

crossed_le : (p q r s : ℤ) (o z : Point) → pos 0 ≤ℤ q → pos 0 ≤ℤ s → weigh p q o ≤ℤ weigh p q z → weigh r s z ≤ℤ weigh r s o
    → (q *ℤ r *ℤ z.0 +ℤ p *ℤ s *ℤ o.0) ≤ℤ (q *ℤ r *ℤ o.0 +ℤ p *ℤ s *ℤ z.0)
crossed_le p q r s o z q_from s_from no_less no_more =
    omega (
      arith,
      poly,
      mul_le q (weigh r s z) (weigh r s o) q_from no_more,
      mul_le s (weigh p q o) (weigh p q z) s_from no_less,
      ap (λ x. x *ℤ o.0) (*ℤ_comm s p),
      ap (λ x. x *ℤ z.0) (*ℤ_comm s p),
      ap (λ x. x *ℤ o.1) (*ℤ_comm s q),
      ap (λ x. x *ℤ z.1) (*ℤ_comm s q),
    )

-- it lies left of o where (r, s) gives the first cost a greater share, and right of it where a smaller
pub lies_left : (p q r s : ℤ) (o z : Point) → pos 0 <ℤ q → pos 0 ≤ℤ s → weigh p q o ≤ℤ weigh p q z → weigh r s z <ℤ weigh r s o → (p *ℤ s) ≤ℤ (q *ℤ r)
    → z.0 <ℤ o.0
lies_left p q r s o z q_above s_from no_less less share =
    by_lt_z z.0 o.0 (λ x. x)
    (λ y. omega (arith, lin, crossed_lt p q r s o z q_above s_from no_less less, rearrange (p *ℤ s) (q *ℤ r) o.0 z.0 share y))

pub lies_right : (p q r s : ℤ) (o z : Point) → pos 0 <ℤ q → pos 0 ≤ℤ s → weigh p q o ≤ℤ weigh p q z → weigh r s z <ℤ weigh r s o → (q *ℤ r) ≤ℤ (p *ℤ s)
    → o.0 <ℤ z.0
lies_right p q r s o z q_above s_from no_less less share =
    by_lt_z o.0 z.0 (λ x. x)
    (λ y. omega (arith, lin, crossed_lt p q r s o z q_above s_from no_less less, rearrange (q *ℤ r) (p *ℤ s) z.0 o.0 share y))

pub lies_not_right : (p q r s : ℤ) (o z : Point) → pos 0 ≤ℤ q → pos 0 ≤ℤ s → weigh p q o ≤ℤ weigh p q z → weigh r s z ≤ℤ weigh r s o → (p *ℤ s) <ℤ (q *ℤ r)
    → z.0 ≤ℤ o.0
lies_not_right p q r s o z q_from s_from no_less no_more share =
    by_lt_z o.0 z.0
    (λ x. omega (arith, lin, crossed_le p q r s o z q_from s_from no_less no_more, rearrange_lt (p *ℤ s) (q *ℤ r) o.0 z.0 share x))
    (λ y. y)

-- ---- turning weights

-- they weigh both points alike
pub alike : (a b : Point) → weigh (turn_p a b) (turn_q a b) a ≡ weigh (turn_p a b) (turn_q a b) b
alike a b = omega (arith, poly, *ℤ_comm a.0 a.1, *ℤ_comm a.0 b.1, *ℤ_comm b.0 a.1, *ℤ_comm b.0 b.1)

-- the share that they give the first cost, where b weighs no less than a at (p, q), or less
pub share_most : (p q : ℤ) (a b : Point) → weigh p q a ≤ℤ weigh p q b → (q *ℤ turn_p a b) ≤ℤ (p *ℤ turn_q a b)
share_most p q a b h = omega (arith, poly)

pub share_above : (p q : ℤ) (a b : Point) → weigh p q b <ℤ weigh p q a → (p *ℤ turn_q a b) <ℤ (q *ℤ turn_p a b)
share_above p q a b h = omega (arith, poly)
