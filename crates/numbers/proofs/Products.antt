-- Products of whole numbers: their laws, their order and their range, and two sets of rules by which `omega` sees through them.
use Rattle.std.proofs.Common.{◌≡◌, ℕ, ◌+◌, ◌*◌, ◌<◌, ◌≤◌, ℤ, pos, negsuc, ◌+ℤ◌, ◌-ℤ◌, ◌*ℤ◌, neg_ℤ, nat_abs, ◌≤ℤ◌, ◌<ℤ◌, ap, mul-le-mul, mul-le-mul_left, arith}
use native.Mathlib.Nat.{mul-lt-mul_of_pos_left}
use lib.IntN.{*ℤ_comm}
use borrow.Author.Differences.{up, down, same_out, same_in, lt_out, le_out, below_in, at_most_in, sum_is_lem, neg_is, product_is, ints}
use Rattle.std.proofs.lemmas.Int.{by_lt_z}

-- linear: a product of two unknowns counts as one unknown
pub ruleset lin = (same_out, same_in, lt_out, le_out, below_in, at_most_in, sum_is_lem, neg_is)

-- ---- laws

pub mul_sum : (a b c : ℤ) → a *ℤ (b +ℤ c) ≡ a *ℤ b +ℤ a *ℤ c
mul_sum a b c = same_in _ _ (omega (arith, ints, ap (λ n. up a * n) (sum_is_lem b c), ap (λ n. down a * n) (sum_is_lem b c)))

pub mul_neg : (a b : ℤ) → a *ℤ neg_ℤ b ≡ neg_ℤ (a *ℤ b)
mul_neg a b = grind (arith, ints)

pub mul_assoc : (a b c : ℤ) → (a *ℤ b) *ℤ c ≡ a *ℤ (b *ℤ c)
mul_assoc a b c =
    same_in _ _
    (omega (
      arith,
      ints,
      ap (λ n. n * up c) (product_is a b).0,
      ap (λ n. n * down c) (product_is a b).0,
      ap (λ n. n * up c) (product_is a b).1,
      ap (λ n. n * down c) (product_is a b).1,
      ap (λ n. up a * n) (product_is b c).0,
      ap (λ n. down a * n) (product_is b c).0,
      ap (λ n. up a * n) (product_is b c).1,
      ap (λ n. down a * n) (product_is b c).1,
    ))

-- ---- the same for `omega`, which takes each at every product of that shape

pub sum_right : (a b c : ℤ) → up (a *ℤ (b +ℤ c)) + down (a *ℤ b) + down (a *ℤ c) ≡ down (a *ℤ (b +ℤ c)) + up (a *ℤ b) + up (a *ℤ c)
sum_right a b c = omega (arith, lin, mul_sum a b c)

pub sum_left : (a b c : ℤ) → up ((b +ℤ c) *ℤ a) + down (b *ℤ a) + down (c *ℤ a) ≡ down ((b +ℤ c) *ℤ a) + up (b *ℤ a) + up (c *ℤ a)
sum_left a b c = omega (arith, lin, mul_sum a b c, *ℤ_comm (b +ℤ c) a, *ℤ_comm b a, *ℤ_comm c a)

pub neg_right : (a b : ℤ) → (up (a *ℤ neg_ℤ b) ≡ down (a *ℤ b)) × (down (a *ℤ neg_ℤ b) ≡ up (a *ℤ b))
neg_right a b = omega (arith, lin, mul_neg a b)

pub neg_left : (a b : ℤ) → (up (neg_ℤ b *ℤ a) ≡ down (b *ℤ a)) × (down (neg_ℤ b *ℤ a) ≡ up (b *ℤ a))
neg_left a b = omega (arith, lin, mul_neg a b, *ℤ_comm (neg_ℤ b) a, *ℤ_comm b a)

pub to_left : (a b c : ℤ) → (up (a *ℤ (b *ℤ c)) ≡ up (a *ℤ b *ℤ c)) × (down (a *ℤ (b *ℤ c)) ≡ down (a *ℤ b *ℤ c))
to_left a b c = omega (arith, lin, mul_assoc a b c)

-- sums of products are multiplied out; that two factors may change places is still to be said
pub ruleset poly = (lin, sum_right, sum_left, neg_right, neg_left, to_left)

-- ---- order

pub mul_le : (k a b : ℤ) → pos 0 ≤ℤ k → a ≤ℤ b → (k *ℤ a) ≤ℤ (k *ℤ b)
mul_le (pos n) a b k h = omega (arith, ints, mul-le-mul_left n (le_out a b h))
mul_le (negsuc n) a b k h = omega (arith, ints)

pub mul_lt : (k a b : ℤ) → pos 0 <ℤ k → a <ℤ b → (k *ℤ a) <ℤ (k *ℤ b)
mul_lt (pos n) a b k h = let m : 0 < n = omega (arith, ints) in omega (arith, ints, mul-lt-mul_of_pos_left (lt_out a b h) m)
mul_lt (negsuc n) a b k h = omega (arith, ints)

pub lt_of_mul : (k a b : ℤ) → pos 0 ≤ℤ k → (k *ℤ a) <ℤ (k *ℤ b) → a <ℤ b
lt_of_mul k a b h l = by_lt_z a b (λ x. x) (λ y. omega (arith, lin, mul_le k b a h y))

pub le_of_mul : (k a b : ℤ) → pos 0 <ℤ k → (k *ℤ a) ≤ℤ (k *ℤ b) → a ≤ℤ b
le_of_mul k a b h l = by_lt_z b a (λ x. omega (arith, lin, mul_lt k b a h x)) (λ y. y)

pub mul_from : (a b : ℤ) → pos 0 ≤ℤ a → pos 0 ≤ℤ b → pos 0 ≤ℤ (a *ℤ b)
mul_from a b h k = let z : a *ℤ pos 0 ≡ pos 0 = omega (arith, ints) in omega (arith, lin, mul_le a (pos 0) b h k)

pub mul_above : (a b : ℤ) → pos 0 <ℤ a → pos 0 <ℤ b → pos 0 <ℤ (a *ℤ b)
mul_above a b h k = let z : a *ℤ pos 0 ≡ pos 0 = omega (arith, ints) in omega (arith, lin, mul_lt a (pos 0) b h k)

-- larger by larger
pub rearrange : (n m o z : ℤ) → n ≤ℤ m → o ≤ℤ z → (n *ℤ z +ℤ m *ℤ o) ≤ℤ (m *ℤ z +ℤ n *ℤ o)
rearrange n m o z h k = omega (arith, poly, mul_le (m -ℤ n) o z (omega (arith, lin)) k)

pub rearrange_lt : (n m o z : ℤ) → n <ℤ m → o <ℤ z → (n *ℤ z +ℤ m *ℤ o) <ℤ (m *ℤ z +ℤ n *ℤ o)
rearrange_lt n m o z h k = omega (arith, poly, mul_lt (m -ℤ n) o z (omega (arith, lin)) k)

-- ---- range

pub far_of_product : (a b : ℤ) → nat_abs (a *ℤ b) ≡ nat_abs a * nat_abs b
far_of_product a b = grind (arith, ints)

pub product_near : (A C : ℕ) (a b : ℤ) → nat_abs a ≤ A → nat_abs b ≤ C → nat_abs (a *ℤ b) ≤ A * C
product_near A C a b h k = omega (arith, far_of_product a b, mul-le-mul h k)
