-- Kinds of worth over whole numbers. The worth of an arc is what a chest on it costs under one objective: a plain number, or a ranked pair.
use Rattle.std.specs.Prelude.{◌≡◌, ℕ, zero, suc, Bool, not, ◌&&◌, ◌||◌, T, ◌⊎◌, ℤ, pos, ◌+ℤ◌, neg_ℤ, int_le, int_lt}

pub record Kind : Type 1 where
  pub Worth : Type 0
  pub nil : Worth
  pub plus : Worth → Worth → Worth
  pub minus : Worth → Worth
  pub at_most : Worth → Worth → Bool

-- a commutative group with a total order that adding the same to both sides keeps
pub record Ordered (K : Kind) : Type 0 where
  pub assoc : (u v w : K.Worth) → K.plus (K.plus u v) w ≡ K.plus u (K.plus v w)
  pub comm : (u v : K.Worth) → K.plus u v ≡ K.plus v u
  pub unit : (u : K.Worth) → K.plus u K.nil ≡ u
  pub inverse : (u : K.Worth) → K.plus u (K.minus u) ≡ K.nil
  pub total : (u v : K.Worth) → T (K.at_most u v) ⊎ T (K.at_most v u)
  pub trans : (u v w : K.Worth) → T (K.at_most u v) → T (K.at_most v w) → T (K.at_most u w)
  pub antisym : (u v : K.Worth) → T (K.at_most u v) → T (K.at_most v u) → u ≡ v
  pub keeps : (u v w : K.Worth) → T (K.at_most u v) → T (K.at_most (K.plus u w) (K.plus v w))

-- strictly more, and strictly less, than nothing
abbrev pub Above : (K : Kind) → K.Worth → Type 0
Above K u = T (not (K.at_most u K.nil))

abbrev pub Below : (K : Kind) → K.Worth → Type 0
Below K u = T (not (K.at_most K.nil u))

-- n times a worth, and f 0 + f 1 + … + f (n - 1)
abbrev pub times : (K : Kind) → ℕ → K.Worth → K.Worth
times K zero u = K.nil
times K (suc n) u = K.plus u (times K n u)

abbrev pub sum : (K : Kind) → ℕ → (ℕ → K.Worth) → K.Worth
sum K zero f = K.nil
sum K (suc n) f = K.plus (sum K n f) (f n)

-- plain numbers
abbrev pub plain : Kind
plain = record { Worth = ℤ; nil = pos 0; plus = λ u v. u +ℤ v; minus = neg_ℤ; at_most = int_le }

-- pairs, compared by the first part, ties by the second
abbrev pub Pair : Type 0
Pair = ℤ × ℤ

abbrev pub plus_pair : Pair → Pair → Pair
plus_pair u v = (u.0 +ℤ v.0, u.1 +ℤ v.1)

abbrev pub minus_pair : Pair → Pair
minus_pair u = (neg_ℤ u.0, neg_ℤ u.1)

abbrev pub at_most_pair : Pair → Pair → Bool
at_most_pair u v = int_lt u.0 v.0 || (int_le u.0 v.0 && int_le u.1 v.1)

abbrev pub ranked : Kind
ranked = record { Worth = Pair; nil = (pos 0, pos 0); plus = plus_pair; minus = minus_pair; at_most = at_most_pair }
