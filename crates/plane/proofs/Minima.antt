-- Lexicographic minima are corners, and what Weigh gives is one of them.
use Rattle.std.proofs.Common.{◌≡◌, ℕ, ℤ, pos, ◌+ℤ◌, ◌*ℤ◌, neg_ℤ, ◌≤ℤ◌, ◌<ℤ◌, sym, refl, ap, ◌∙◌, arith}
use lib.IntN.{*ℤ_comm, *ℤ-zero, zero-*ℤ}
use Rattle.std.proofs.lemmas.Int.{by_lt_z}
use Rattle.numbers.proofs.Products.{lin, mul_sum, mul_neg, mul_le, mul_from, le_of_mul}
use Rattle.numbers.proofs.Factors.{one_right, same_of_mul_above, from_below, from_above}
use Rattle.plane.specs.Points.{Point, first, second, weigh, Corner, Least, Within}
use Rattle.plane.specs.Facts.{Telling, MinimumOf, LightestOf, LightestOneOf, WeighOf, WeighFirstOf}
use Rattle.plane.proofs.Sides.{same_point, weigh_first, weigh_second, weigh_tilted, told_apart}

-- ---- K times the weight that counts first and once the one that breaks its ties, for any K that leaves no room to make up a difference

module _ (P : Point → Type 0) (K p q r s : ℤ) (z : Point) (k_above : pos 0 <ℤ K) (t : Telling p q r s) (l : Least P (weigh p q) (weigh r s) z) (room : (y : Point) → P y → weigh r s z <ℤ (weigh r s y +ℤ K)) where
  heavier : (y : Point) → P y → weigh p q z <ℤ weigh p q y → (K *ℤ weigh p q z +ℤ weigh r s z) <ℤ (K *ℤ weigh p q y +ℤ weigh r s y)
  heavier y h more =
      let by_one : (weigh p q z +ℤ pos 1) ≤ℤ weigh p q y = omega (arith, lin) in
      omega (arith, lin, mul_le K (weigh p q z +ℤ pos 1) (weigh p q y) (omega (arith, lin)) by_one, mul_sum K (weigh p q z) (pos 1), one_right K, room y h)

  tied : (y : Point) → P y → ¬ (y ≡ z) → weigh p q y ≡ weigh p q z → (K *ℤ weigh p q z +ℤ weigh r s z) <ℤ (K *ℤ weigh p q y +ℤ weigh r s y)
  tied y h n e =
      by_lt_z (weigh r s z) (weigh r s y)
      (λ more. omega (arith, lin, ap (λ x. K *ℤ x) e))
      (λ no_more. absurd (n (told_apart p q r s y z t.apart e (omega (arith, lin, l.tie y h e)))))

  -- K is at least one, so that neither cost goes unweighed
  counts : (m n : ℤ) → pos 0 ≤ℤ m → pos 0 <ℤ (m +ℤ n) → pos 0 <ℤ (K *ℤ m +ℤ n)
  counts m n m_from above = omega (arith, lin, mul_le m (pos 1) K m_from (omega (arith, lin)), one_right m, *ℤ_comm m K)

  tilted_corner : Corner P z
  tilted_corner = record {
    stands = l.stands;
    p = K *ℤ p +ℤ r;
    q = K *ℤ q +ℤ s;
    p_above = counts p r t.p_from t.first_counts;
    q_above = counts q s t.q_from t.second_counts;
    alone = λ y h n. omega (
      arith,
      lin,
      weigh_tilted K p q r s z,
      weigh_tilted K p q r s y,
      by_lt_z (weigh p q z) (weigh p q y) (heavier y h) (λ no_more. tied y h n (omega (arith, lin, l.least y h))),
    );
  }

-- what a point within B weighs
module _ (B : ℕ) (P : Point → Type 0) (w : Within B P) (r s : ℤ) (r_from : pos 0 ≤ℤ r) (s_from : pos 0 ≤ℤ s) (y : Point) (h : P y) where
  reach_above : weigh r s y ≤ℤ (r *ℤ pos B +ℤ s *ℤ pos B)
  reach_above =
      omega (
        arith,
        lin,
        mul_le r y.0 (pos B) r_from (from_above B y.0 (w.first_near y h)),
        mul_le s y.1 (pos B) s_from (from_above B y.1 (w.second_near y h)),
      )

  reach_below : neg_ℤ (r *ℤ pos B +ℤ s *ℤ pos B) ≤ℤ weigh r s y
  reach_below =
      omega (
        arith,
        lin,
        mul_le r (neg_ℤ (pos B)) y.0 r_from (from_below B y.0 (w.first_near y h)),
        mul_le s (neg_ℤ (pos B)) y.1 s_from (from_below B y.1 (w.second_near y h)),
        mul_neg r (pos B),
        mul_neg s (pos B),
      )

pub minimum_of : (P : Point → Type 0) → MinimumOf P
minimum_of P B p q r s z w t l =
    let reach : ℤ = r *ℤ pos B +ℤ s *ℤ pos B in
    let b_from : pos 0 ≤ℤ pos B = omega (arith, lin) in
    let reach_from : pos 0 ≤ℤ reach = omega (arith, lin, mul_from r (pos B) t.r_from b_from, mul_from s (pos B) t.s_from b_from) in
    tilted_corner P (reach +ℤ reach +ℤ pos 1) p q r s z (omega (arith, lin)) t l
    (λ y h. omega (arith, lin, reach_above B P w r s t.r_from t.s_from z l.stands, reach_below B P w r s t.r_from t.s_from y h))

-- ---- the weights in use

-- the second cost breaks ties, or the first
pub second_tells : (p q : ℤ) → pos 0 <ℤ p → pos 0 ≤ℤ q → Telling p q (pos 0) (pos 1)
second_tells p q p_above q_from = record {
  p_from = omega (arith, lin);
  q_from = q_from;
  r_from = omega (arith, lin);
  s_from = omega (arith, lin);
  first_counts = omega (arith, lin);
  second_counts = omega (arith, lin);
  apart = λ e. omega (arith, lin, one_right p, *ℤ-zero q);
}

pub first_tells : (p q : ℤ) → pos 0 ≤ℤ p → pos 0 <ℤ q → Telling p q (pos 1) (pos 0)
first_tells p q p_from q_above = record {
  p_from = p_from;
  q_from = omega (arith, lin);
  r_from = omega (arith, lin);
  s_from = omega (arith, lin);
  first_counts = omega (arith, lin);
  second_counts = omega (arith, lin);
  apart = λ e. omega (arith, lin, *ℤ-zero p, one_right q);
}

pub least_alike : (P : Point → Type 0) (f g u v : Point → ℤ) → ((y : Point) → f y ≡ u y) → ((y : Point) → g y ≡ v y) → (z : Point) → Least P f g z → Least P u v z
least_alike P f g u v same_f same_g z l = record {
  stands = l.stands;
  least = λ y h. omega (arith, lin, same_f y, same_f z, l.least y h);
  tie = λ y h e. omega (arith, lin, same_g y, same_g z, l.tie y h (same_f y ∙ e ∙ sym (same_f z)));
}

pub first_corner : (B : ℕ) (P : Point → Type 0) (z : Point) → Within B P → Least P first second z → Corner P z
first_corner B P z w l =
    minimum_of P B (pos 1) (pos 0) (pos 0) (pos 1) z w
    (second_tells (pos 1) (pos 0) (omega (arith, lin)) (omega (arith, lin)))
    (least_alike P first second (weigh (pos 1) (pos 0)) (weigh (pos 0) (pos 1)) (λ y. sym (weigh_first y)) (λ y. sym (weigh_second y)) z l)

pub last_corner : (B : ℕ) (P : Point → Type 0) (z : Point) → Within B P → Least P second first z → Corner P z
last_corner B P z w l =
    minimum_of P B (pos 0) (pos 1) (pos 1) (pos 0) z w
    (first_tells (pos 0) (pos 1) (omega (arith, lin)) (omega (arith, lin)))
    (least_alike P second first (weigh (pos 0) (pos 1)) (weigh (pos 1) (pos 0)) (λ y. sym (weigh_second y)) (λ y. sym (weigh_first y)) z l)

-- the least by (weight, second), as the search asks for it
pub sought_corner : (B : ℕ) (P : Point → Type 0) (p q : ℤ) (z : Point) → Within B P → pos 0 <ℤ p → pos 0 ≤ℤ q → Least P (weigh p q) second z → Corner P z
sought_corner B P p q z w p_above q_from l =
    minimum_of P B p q (pos 0) (pos 1) z w (second_tells p q p_above q_from)
    (least_alike P (weigh p q) second (weigh p q) (weigh (pos 0) (pos 1)) (λ y. refl) (λ y. sym (weigh_second y)) z l)

-- ---- Weigh

pub lightest_of : (P : Point → Type 0) → LightestOf P
lightest_of P B p q z w p_from q_from some l = by_lt_z (pos 0) q by_first by_second
  where
    by_first : pos 0 <ℤ q → Corner P z
    by_first q_above =
        minimum_of P B p q (pos 1) (pos 0) z w (first_tells p q p_from q_above) (record {
          stands = l.stands;
          least = l.lightest;
          tie = λ y h e. omega (arith, lin, weigh_first y, weigh_first z, l.then_first y h e);
        })

    by_second : q ≤ℤ pos 0 → Corner P z
    by_second q_most =
        let nothing : q ≡ pos 0 = omega (arith, lin) in
        let p_above : pos 0 <ℤ p = omega (arith, lin) in
        let unweighed : (y : Point) → q *ℤ y.1 ≡ pos 0 = λ y. ap (λ x. x *ℤ y.1) nothing ∙ zero-*ℤ y.1 in
        sought_corner B P p q z w p_above q_from (record {
          stands = l.stands;
          least = l.lightest;
          tie = λ y h e. l.then_second y h e (same_of_mul_above p y.0 z.0 p_above (omega (arith, lin, unweighed y, unweighed z)));
        })

pub lightest_one_of : (P : Point → Type 0) → LightestOneOf P
lightest_one_of P p q y z k l =
    let e : weigh p q y ≡ weigh p q z = omega (arith, lin, k.lightest z l.stands, l.lightest y k.stands) in
    let f : y.0 ≡ z.0 = omega (arith, lin, k.then_first z l.stands (sym e), l.then_first y k.stands e) in
    same_point y z f (omega (arith, lin, k.then_second z l.stands (sym e) (sym f), l.then_second y k.stands e f))

pub weigh_of : (P : Point → Type 0) → WeighOf P
weigh_of P p q z q_above l = record {
  stands = l.stands;
  lightest = l.least;
  then_first = l.tie;
  then_second = λ y h e f. le_of_mul q z.1 y.1 q_above (omega (arith, lin, ap (λ x. p *ℤ x) f));
}

pub weigh_first_of : (P : Point → Type 0) → WeighFirstOf P
weigh_first_of P p z p_above l = record {
  stands = l.stands;
  lightest = l.least;
  then_first = λ y h e. le_of_mul p z.0 y.0 p_above (omega (arith, lin, zero-*ℤ y.1, zero-*ℤ z.1));
  then_second = λ y h e f. l.tie y h e;
}
