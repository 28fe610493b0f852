-- A factor taken away from both sides, products with one, and the range that a distance from zero gives.
use Rattle.std.proofs.Common.{◌≡◌, ℕ, ◌≤◌, ℤ, pos, ◌*ℤ◌, neg_ℤ, nat_abs, ◌≤ℤ◌, ◌<ℤ◌, sym, ap, ◌∙◌, arith}
use lib.IntN.{*ℤ_comm}
use borrow.Author.Differences.{abs_is, ints}
use Rattle.std.proofs.lemmas.Int.{by_lt_z}
use Rattle.numbers.proofs.Products.{lin, mul_neg, le_of_mul}

pub one_right : (k : ℤ) → k *ℤ pos 1 ≡ k
one_right k = omega (arith, ints)

pub one_left : (k : ℤ) → pos 1 *ℤ k ≡ k
one_left k = omega (arith, ints)

-- a factor above zero, and any that is not zero
pub same_of_mul_above : (k a b : ℤ) → pos 0 <ℤ k → k *ℤ a ≡ k *ℤ b → a ≡ b
same_of_mul_above k a b h e =
    let low : a ≤ℤ b = le_of_mul k a b h (omega (arith, lin)) in
    let high : b ≤ℤ a = le_of_mul k b a h (omega (arith, lin)) in
    omega (arith, lin)

pub same_of_mul : (k a b : ℤ) → ¬ (k ≡ pos 0) → k *ℤ a ≡ k *ℤ b → a ≡ b
same_of_mul k a b n e = by_lt_z (pos 0) k (λ above. same_of_mul_above k a b above e) (λ most. by_lt_z k (pos 0) below (λ from. absurd (n (omega (arith, lin)))))
  where
    turned : (x : ℤ) → neg_ℤ k *ℤ x ≡ neg_ℤ (k *ℤ x)
    turned x = omega (arith, lin, *ℤ_comm (neg_ℤ k) x, mul_neg x k, *ℤ_comm x k)

    below : k <ℤ pos 0 → a ≡ b
    below h = same_of_mul_above (neg_ℤ k) a b (omega (arith, lin)) (turned a ∙ ap neg_ℤ e ∙ sym (turned b))

-- near zero is between two bounds
pub from_below : (B : ℕ) (x : ℤ) → nat_abs x ≤ B → neg_ℤ (pos B) ≤ℤ x
from_below B x h = omega (arith, ints, abs_is x)

pub from_above : (B : ℕ) (x : ℤ) → nat_abs x ≤ B → x ≤ℤ pos B
from_above B x h = omega (arith, ints, abs_is x)
