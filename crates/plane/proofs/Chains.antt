-- A chain of turns from the first corner to the last is the full list.
use Rattle.std.proofs.Common.{◌≡◌, ℕ, List, [], ◌∷◌, ◌++◌, ◌+ℤ◌, ◌*ℤ◌, ◌≤ℤ◌, ◌<ℤ◌, sym, subst, append_assoc, append-nil, arith}
use lib.IntN.{*ℤ_comm}
use Rattle.std.proofs.lemmas.Int.{by_lt_z}
use Rattle.numbers.proofs.Products.{lin}
use Rattle.plane.specs.Points.{Point, weigh, turn_p, turn_q, Corner, Within}
use Rattle.plane.specs.Lists.{Full, Upto, After, Turn, Sharp, Chain}
use Rattle.plane.specs.Facts.{ChainOf}
use Rattle.plane.proofs.Sides.{weigh_sum, told_apart, alike}
use Rattle.plane.proofs.Minima.{last_corner}
use Rattle.plane.proofs.Searches.{after_turn}
use Rattle.plane.proofs.Fronts.{begins_of, goes_on_of, finishes_of}

-- no point is lighter than where a turn leads
turned_to : (P : Point → Type 0) (a b : Point) → Turn P a b → (y : Point) → P y → weigh (turn_p a b) (turn_q a b) b ≤ℤ weigh (turn_p a b) (turn_q a b) y
turned_to P a b t y h = omega (arith, lin, alike a b, t.lightest y h)

-- the point between two turns is a corner, by the sum of their weights
bend : (P : Point → Type 0) (a b c : Point) → P b → Turn P a b → Turn P b c → (turn_p b c *ℤ turn_q a b) <ℤ (turn_p a b *ℤ turn_q b c) → Corner P b
bend P a b c hb t u sharp = record {
  stands = hb;
  p = turn_p a b +ℤ turn_p b c;
  q = turn_q a b +ℤ turn_q b c;
  p_above = omega (arith, lin, t.below, u.below);
  q_above = omega (arith, lin, t.right, u.right);
  alone = alone;
}
  where
    apart : ¬ (turn_p a b *ℤ turn_q b c ≡ turn_q a b *ℤ turn_p b c)
    apart e = omega (arith, lin, *ℤ_comm (turn_q a b) (turn_p b c))

    both : (x : Point) → weigh (turn_p a b +ℤ turn_p b c) (turn_q a b +ℤ turn_q b c) x ≡ weigh (turn_p a b) (turn_q a b) x +ℤ weigh (turn_p b c) (turn_q b c) x
    both = weigh_sum (turn_p a b) (turn_q a b) (turn_p b c) (turn_q b c)

    alone : (y : Point) → P y → ¬ (y ≡ b) → weigh (turn_p a b +ℤ turn_p b c) (turn_q a b +ℤ turn_q b c) b <ℤ weigh (turn_p a b +ℤ turn_p b c) (turn_q a b +ℤ turn_q b c) y
    alone y h n =
        let before : weigh (turn_p a b) (turn_q a b) b ≤ℤ weigh (turn_p a b) (turn_q a b) y = turned_to P a b t y h in
        let after : weigh (turn_p b c) (turn_q b c) b ≤ℤ weigh (turn_p b c) (turn_q b c) y = u.lightest y h in
        by_lt_z (weigh (turn_p a b +ℤ turn_p b c) (turn_q a b +ℤ turn_q b c) b) (weigh (turn_p a b +ℤ turn_p b c) (turn_q a b +ℤ turn_q b c) y)
        (λ less. less)
        (λ no_less. absurd (n (told_apart (turn_p a b) (turn_q a b) (turn_p b c) (turn_q b c) y b apart (omega (arith, lin, both b, both y)) (omega (arith, lin, both b, both y)))))

module _ (B : ℕ) (P : Point → Type 0) (w : Within B P) where
  -- where a turn of the chain leads is a corner
  reached : (a b : Point) (l : List Point) → P b → Turn P a b → Sharp a b l → Chain P b l → Corner P b
  reached a b [] hb t sharp c = last_corner B P b w c
  reached a b (d ∷ l) hb t sharp c = bend P a b d hb t c.1 sharp

  goes_through : (g : List Point) (a : Point) (l : List Point) → Upto P g a → Chain P a l → Full P (g ++ l)
  goes_through g a [] u c = subst (Full P) (sym (append-nil g)) (finishes_of P g a u c)
  goes_through g a (b ∷ l) u c =
      let t : Turn P a b = c.1 in
      let after : After P a b = after_turn P a b u.here.stands (reached a b l c.0 t c.2 c.3) t.right t.below (turned_to P a b t) in
      subst (Full P) (append_assoc g (b ∷ []) l) (goes_through (g ++ (b ∷ [])) b l (goes_on_of P g a b u after) c.3)

pub chain_of : (P : Point → Type 0) → ChainOf P
chain_of P B a l w m c = goes_through B P w (a ∷ []) a l (begins_of P B a w m) c
