-- The full list of corners, its fronts, and chains of turns that show a list to be full.
use Rattle.std.specs.Prelude.{◌≡◌, ◌⊎◌, List, [], ◌∷◌, ◌++◌, ℤ, pos, ◌*ℤ◌, ◌≤ℤ◌, ◌<ℤ◌}
use Rattle.std.specs.List.{AllByRecursion}
use Rattle.plane.specs.Points.{Point, first, second, weigh, turn_p, turn_q, Corner, Least}

abbrev pub In : Point → List Point → Type 0
In z [] = ⊥
In z (x ∷ l) = (z ≡ x) ⊎ In z l

-- by strictly rising first cost
abbrev pub Rises : List Point → Type 0
Rises [] = Unit {0}
Rises (x ∷ l) = AllByRecursion (λ y. x.0 <ℤ y.0) l × Rises l

-- exactly the corners, by rising first cost
pub record Full (P : Point → Type 0) (l : List Point) : Type 0 where
  pub rises : Rises l
  pub sound : (z : Point) → In z l → Corner P z
  pub complete : (z : Point) → Corner P z → In z l

-- the full list as far as a, its last
pub record Upto (P : Point → Type 0) (l : List Point) (a : Point) : Type 0 where
  pub here : Corner P a
  pub rises : Rises l
  pub sound : (z : Point) → In z l → Corner P z × (z.0 ≤ℤ a.0)
  pub complete : (z : Point) → Corner P z → z.0 ≤ℤ a.0 → In z l

-- g is how l begins
abbrev pub Front : List Point → List Point → Type 0
Front g l = (rest : List Point) × (l ≡ g ++ rest)

abbrev pub Heads : Point → List Point → Type 0
Heads z l = (rest : List Point) × (l ≡ z ∷ rest)

abbrev pub Ends : Point → List Point → Type 0
Ends z l = (rest : List Point) × (l ≡ rest ++ (z ∷ []))

-- c is the corner after a
pub record After (P : Point → Type 0) (a c : Point) : Type 0 where
  pub corner : Corner P c
  pub right : a.0 <ℤ c.0
  pub below : c.1 <ℤ a.1
  pub between : (z : Point) → Corner P z → a.0 <ℤ z.0 → z.0 <ℤ c.0 → ⊥

-- b lies right of a and below it, and at some weights it is a lightest point and lighter than a: where the search for the corner after a may stand
pub record Candidate (P : Point → Type 0) (a b : Point) : Type 0 where
  pub stands : P b
  pub right : a.0 <ℤ b.0
  pub below : b.1 <ℤ a.1
  pub p : ℤ
  pub q : ℤ
  pub q_above : pos 0 <ℤ q
  pub lightest : (y : Point) → P y → weigh p q b ≤ℤ weigh p q y
  pub lighter : weigh p q b <ℤ weigh p q a

-- some list has exactly these points
pub record Listed (P : Point → Type 0) : Type 0 where
  pub points : List Point
  pub sound : (z : Point) → In z points → P z
  pub complete : (z : Point) → P z → In z points

-- the turning weights from a to b are above zero, and no point is lighter than a at them (nor than b: they weigh both alike)
pub record Turn (P : Point → Type 0) (a b : Point) : Type 0 where
  pub right : a.0 <ℤ b.0
  pub below : b.1 <ℤ a.1
  pub lightest : (y : Point) → P y → weigh (turn_p a b) (turn_q a b) a ≤ℤ weigh (turn_p a b) (turn_q a b) y

-- the weights from b to the next point of the list, if there is one, turn strictly from those from a to b
abbrev pub Sharp : Point → Point → List Point → Type 0
Sharp a b [] = Unit {0}
Sharp a b (c ∷ l) = (turn_p b c *ℤ turn_q a b) <ℤ (turn_p a b *ℤ turn_q b c)

-- turns from a over the points of the list to a point that is least by (second, first)
abbrev pub Chain : (Point → Type 0) → Point → List Point → Type 0
Chain P a [] = Least P second first a
Chain P a (b ∷ l) = P b × Turn P a b × Sharp a b l × Chain P b l
