-- Points, weights and corners, over any predicate that says which points there are.
use Rattle.std.specs.Prelude.{◌≡◌, ℕ, ◌≤◌, ℤ, pos, ◌+ℤ◌, ◌-ℤ◌, ◌*ℤ◌, ◌≤ℤ◌, ◌<ℤ◌, unsigned_abs}

-- first cost and second cost
abbrev pub Point : Type 0
Point = ℤ × ℤ

abbrev pub first : Point → ℤ
first z = z.0

abbrev pub second : Point → ℤ
second z = z.1

abbrev pub swap : Point → Point
swap z = (z.1, z.0)

-- what a point weighs
abbrev pub weigh : ℤ → ℤ → Point → ℤ
weigh p q z = p *ℤ z.0 +ℤ q *ℤ z.1

-- a corner (extreme supported point): for some whole p and q above zero every other point weighs more
pub record Corner (P : Point → Type 0) (z : Point) : Type 0 where
  pub stands : P z
  pub p : ℤ
  pub q : ℤ
  pub p_above : pos 0 <ℤ p
  pub q_above : pos 0 <ℤ q
  pub alone : (y : Point) → P y → ¬ (y ≡ z) → weigh p q z <ℤ weigh p q y

-- the turning weights from a corner to the next
abbrev pub turn_p : Point → Point → ℤ
turn_p a b = a.1 -ℤ b.1

abbrev pub turn_q : Point → Point → ℤ
turn_q a b = b.0 -ℤ a.0

-- z is least by f, and by g among those with its f
pub record Least (P : Point → Type 0) (f g : Point → ℤ) (z : Point) : Type 0 where
  pub stands : P z
  pub least : (y : Point) → P y → f z ≤ℤ f y
  pub tie : (y : Point) → P y → f y ≡ f z → g z ≤ℤ g y

-- z is a lightest point; of equal ones it has the least first cost, then the least second
pub record Lightest (P : Point → Type 0) (p q : ℤ) (z : Point) : Type 0 where
  pub stands : P z
  pub lightest : (y : Point) → P y → weigh p q z ≤ℤ weigh p q y
  pub then_first : (y : Point) → P y → weigh p q y ≡ weigh p q z → z.0 ≤ℤ y.0
  pub then_second : (y : Point) → P y → weigh p q y ≡ weigh p q z → y.0 ≡ z.0 → z.1 ≤ℤ y.1

-- both costs of every point are at most B from zero
pub record Within (B : ℕ) (P : Point → Type 0) : Type 0 where
  pub first_near : (y : Point) → P y → unsigned_abs y.0 ≤ B
  pub second_near : (y : Point) → P y → unsigned_abs y.1 ≤ B
