-- Neighbours of the full list: what lies between them, and what they weigh at their turning weights.
use Rattle.std.proofs.Common.{◌⊎◌, List, [], ◌∷◌, ◌++◌, ◌≤ℤ◌, ◌<ℤ◌, sym, refl, ap, subst, inl, inr, arith}
use Rattle.std.proofs.lemmas.Int.{by_lt_z}
use Rattle.numbers.proofs.Products.{lin}
use Rattle.plane.specs.Points.{Point, first, second, weigh, turn_p, turn_q, Corner, Least}
use Rattle.plane.specs.Lists.{In, Rises, Candidate}
use Rattle.plane.specs.Facts.{TurnsOf}
use Rattle.plane.proofs.Corners.{corner_falls}
use Rattle.plane.proofs.Finite.{least_listed}
use Rattle.plane.proofs.Members.{behind}
use Rattle.plane.proofs.Minima.{sought_corner}
use Rattle.plane.proofs.Searches.{search_of}

-- an element of the second part
in_rest : (u l : List Point) (z : Point) → In z l → In z (u ++ l)
in_rest [] l z i = i
in_rest (x ∷ u) l z i = inr (in_rest u l z i)

rest_rises : (u l : List Point) → Rises (u ++ l) → Rises l
rest_rises [] l r = r
rest_rises (x ∷ u) l r = rest_rises u l r.1

-- no element lies strictly between neighbours
none_amid : (u v : List Point) (a b z : Point) → Rises (u ++ (a ∷ b ∷ v)) → In z (u ++ (a ∷ b ∷ v)) → (z.0 ≤ℤ a.0) ⊎ (b.0 ≤ℤ z.0)
none_amid [] v a b z r (inl e) = inl (omega (arith, lin, ap first e))
none_amid [] v a b z r (inr (inl e)) = inr (omega (arith, lin, ap first e))
none_amid [] v a b z r (inr (inr i)) = inr (omega (arith, lin, behind b v r.1 z i))
none_amid (x ∷ u) v a b z r (inl e) = inl (omega (arith, lin, ap first e, behind x (u ++ (a ∷ b ∷ v)) r a (in_rest u (a ∷ b ∷ v) a (inl refl))))
none_amid (x ∷ u) v a b z r (inr i) = none_amid u v a b z r.1 i

pub turns_of : (P : Point → Type 0) → TurnsOf P
turns_of P B w s l u v a b full e = record { right = right; below = below; lightest = lightest }
  where
    here : (z : Point) → In z (u ++ (a ∷ b ∷ v)) → Corner P z
    here z i = full.sound z (subst (In z) (sym e) i)

    rises : Rises (u ++ (a ∷ b ∷ v))
    rises = subst Rises e full.rises

    at_a : Corner P a
    at_a = here a (in_rest u (a ∷ b ∷ v) a (inl refl))

    at_b : Corner P b
    at_b = here b (in_rest u (a ∷ b ∷ v) b (inr (inl refl)))

    right : a.0 <ℤ b.0
    right = behind a (b ∷ v) (rest_rises u (a ∷ b ∷ v) rises) b (inl refl)

    below : b.1 <ℤ a.1
    below = corner_falls P a b at_a at_b right

    candidate : Candidate P a b
    candidate = record {
      stands = at_b.stands;
      right = right;
      below = below;
      p = at_b.p;
      q = at_b.q;
      q_above = at_b.q_above;
      lightest = λ y h. by y h;
      lighter = at_b.alone a at_a.stands (λ f. omega (arith, lin, right, ap first f));
    }
      where
        by : (y : Point) → P y → weigh at_b.p at_b.q b ≤ℤ weigh at_b.p at_b.q y
        by y h = by_lt_z (weigh at_b.p at_b.q y) (weigh at_b.p at_b.q b)
            (λ less. absurd (omega (arith, lin, at_b.alone y h (λ f. omega (arith, lin, ap (weigh at_b.p at_b.q) f)))))
            (λ fine. fine)

    lowest : (c : Point) × Least P (weigh (turn_p a b) (turn_q a b)) second c
    lowest = least_listed P s a at_a.stands (weigh (turn_p a b) (turn_q a b)) second

    -- were it lighter than a, it would be a corner between the two
    lightest : (y : Point) → P y → weigh (turn_p a b) (turn_q a b) a ≤ℤ weigh (turn_p a b) (turn_q a b) y
    lightest y h = by_lt_z (weigh (turn_p a b) (turn_q a b) lowest.0) (weigh (turn_p a b) (turn_q a b) a)
        (λ less.
        let c = (search_of P a b lowest.0 at_a candidate lowest.1).1 less in
        let k : Corner P lowest.0 = sought_corner B P (turn_p a b) (turn_q a b) lowest.0 w (omega (arith, lin, below)) (omega (arith, lin, right)) lowest.1 in
        absurd (amid lowest.0 c.0.right c.1 (none_amid u v a b lowest.0 rises (subst (In lowest.0) e (full.complete lowest.0 k)))))
        (λ fine. omega (arith, lin, lowest.1.least y h))
      where
        amid : (c : Point) → a.0 <ℤ c.0 → c.0 <ℤ b.0 → (c.0 ≤ℤ a.0) ⊎ (b.0 ≤ℤ c.0) → ⊥
        amid c m n (inl i) = omega (arith, lin)
        amid c m n (inr i) = omega (arith, lin)
