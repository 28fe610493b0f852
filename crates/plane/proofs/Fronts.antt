-- The full list: its first and last corner, its fronts as they grow, and that there is but one.
use Rattle.std.proofs.Common.{◌≡◌, ◌⊎◌, [], ◌∷◌, ◌≤ℤ◌, ◌<ℤ◌, sym, ap, subst, inl, inr, arith}
use Rattle.std.proofs.lemmas.Int.{by_lt_z}
use Rattle.numbers.proofs.Products.{lin}
use Rattle.plane.specs.Points.{Point, first, Corner}
use Rattle.plane.specs.Lists.{In}
use Rattle.plane.specs.Facts.{FirstOf, LastOf, BeginsOf, GoesOnOf, FinishesOf, FrontOf, UniqueOf}
use Rattle.plane.proofs.Minima.{first_corner, last_corner}
use Rattle.plane.proofs.Corners.{same_first, none_right}
use Rattle.plane.proofs.Members.{heads_lowest, ends_highest, same_list, front_list, snoc_in, snoc_out, snoc_rises}

pub first_of : (P : Point → Type 0) → FirstOf P
first_of P B z w l =
    let k : Corner P z = first_corner B P z w l in
    (k, λ m f. heads_lowest z m f.rises (f.complete z k) (λ y i. l.least y (f.sound y i).stands))

pub last_of : (P : Point → Type 0) → LastOf P
last_of P B z w l =
    let k : Corner P z = last_corner B P z w l in
    (k, λ m f. ends_highest z m f.rises (f.complete z k) (λ y i. none_right P z y l (f.sound y i)))

pub unique_of : (P : Point → Type 0) → UniqueOf P
unique_of P l m f g = same_list l m f.rises g.rises (λ z i. g.complete z (f.sound z i)) (λ z i. f.complete z (g.sound z i))

-- ---- fronts

pub begins_of : (P : Point → Type 0) → BeginsOf P
begins_of P B z w l =
    let k : Corner P z = first_corner B P z w l in
    record {
      here = k;
      rises = (tt, tt);
      sound = λ y i. only k y i;
      complete = λ y m h. inl (same_first P y z m k (omega (arith, lin, l.least y m.stands)));
    }
  where
    only : Corner P z → (y : Point) → In y (z ∷ []) → Corner P y × (y.0 ≤ℤ z.0)
    only k y (inl e) = (subst (Corner P) (sym e) k, omega (arith, lin, ap first e))
    only k y (inr i) = absurd i

pub goes_on_of : (P : Point → Type 0) → GoesOnOf P
goes_on_of P l a c u n = record {
  here = n.corner;
  rises = snoc_rises l c u.rises (λ z i. omega (arith, lin, (u.sound z i).1, n.right));
  sound = λ z i. either z (snoc_out l c z i);
  complete = λ z k h. snoc_in l c z (by_lt_z a.0 z.0 (λ beyond. inr (new z k h beyond)) (λ within. inl (u.complete z k within)));
}
  where
    either : (z : Point) → In z l ⊎ (z ≡ c) → Corner P z × (z.0 ≤ℤ c.0)
    either z (inl i) = ((u.sound z i).0, omega (arith, lin, (u.sound z i).1, n.right))
    either z (inr e) = (subst (Corner P) (sym e) n.corner, omega (arith, lin, ap first e))

    new : (z : Point) → Corner P z → z.0 ≤ℤ c.0 → a.0 <ℤ z.0 → z ≡ c
    new z k h beyond = by_lt_z z.0 c.0 (λ before. absurd (n.between z k beyond before)) (λ level. same_first P z c k n.corner (omega (arith, lin)))

pub finishes_of : (P : Point → Type 0) → FinishesOf P
finishes_of P l a u e = record {
  rises = u.rises;
  sound = λ z i. (u.sound z i).0;
  complete = λ z k. u.complete z k (none_right P a z e k);
}

pub front_of : (P : Point → Type 0) → FrontOf P
front_of P g l a u f =
    front_list g l u.rises f.rises
    (λ z i. f.complete z (u.sound z i).0)
    (λ y z i j h. u.complete y (f.sound y i) (omega (arith, lin, (u.sound z j).1)))
