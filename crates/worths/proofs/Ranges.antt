-- Where sums and negations of worths are exact.
use Rattle.std.proofs.Common.{◌≡◌, ℕ, ◌+◌, ◌^◌, ◌<◌, ◌≤◌, ℤ, pos, ◌+ℤ◌, nat_abs, refl, ◌∙◌, arith, lit<, w64, SFits}
use Rattle.network.specs.declared.road.Road.{Road}
use Rattle.std.specs.Int.{int_wrap}
use Rattle.std.proofs.lemmas.Int.{ints, int_wrap_fits, int_wrap-add_left, int_wrap-add_right}
use Rattle.worths.specs.Fit.{reduced_by}
use Rattle.worths.specs.Kinds.{Pair, plus_pair, minus_pair, ranked}
use Rattle.worths.specs.Laws.{pair_eq}
use Rattle.worths.specs.Values.{NearPair, wrapped_pair, max_exact, max_worth, max_price}

abs_fits : (a : ℤ) (n : ℕ) → nat_abs a ≤ n → n < 2 ^ 63 → SFits w64 a
abs_fits a n h k = omega (arith, ints)

pub near_plus : (u v : Pair) (m n : ℕ) → NearPair m u → NearPair n v → NearPair (m + n) (plus_pair u v)
near_plus u v m n h k = grind (arith, ints)

pub near_minus : (u : Pair) (n : ℕ) → NearPair n u → NearPair n (minus_pair u)
near_minus u n h = grind (arith, ints)

pub near_within : (u : Pair) (m n : ℕ) → m ≤ n → NearPair m u → NearPair n u
near_within u m n l h = omega arith

pub wrapped_near : (u : Pair) → NearPair max_exact u → wrapped_pair u ≡ u
wrapped_near u h = pair_eq (int_wrap_fits w64 u.0 (abs_fits u.0 max_exact h.first (lit< tt))) (int_wrap_fits w64 u.1 (abs_fits u.1 max_exact h.second (lit< tt)))

pub wrapped_zero : pos 0 ≡ int_wrap w64 (pos 0)
unfolding int_wrap
wrapped_zero = refl

-- a value that wraps is exact where the true one is near
pub exact_from_wraps : (x u : Pair) → x ≡ wrapped_pair u → NearPair max_exact u → x ≡ u
exact_from_wraps x u e h = e ∙ wrapped_near u h

-- to wrap on the way changes nothing
pub wrapped_plus : (u v : Pair) → wrapped_pair (plus_pair (wrapped_pair u) (wrapped_pair v)) ≡ wrapped_pair (plus_pair u v)
wrapped_plus u v = pair_eq (part u.0 v.0) (part u.1 v.1)
  where
    part : (a b : ℤ) → int_wrap w64 (int_wrap w64 a +ℤ int_wrap w64 b) ≡ int_wrap w64 (a +ℤ b)
    part a b = int_wrap-add_left w64 a (int_wrap w64 b) ∙ int_wrap-add_right w64 a b

-- within the limits of worths and prices a reduced worth is exact
pub near_reduced :
    (r : Road) (worth : Pair) (price : ℕ → Pair) → NearPair max_worth worth → NearPair max_price (price r.tail) → NearPair max_price (price r.head)
    → NearPair max_exact (reduced_by ranked r worth price)
near_reduced r worth price near_worth near_tail near_head = grind (arith, ints)
