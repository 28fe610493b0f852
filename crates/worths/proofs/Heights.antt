-- How far rows of pairs can still fall: a number that grows less whenever some of them fall.
use Rattle.std.proofs.Common.{◌≡◌, ℕ, zero, suc, ◌+◌, ◌*◌, ◌<◌, ◌≤◌, not, T, ◌⊎◌, ℤ, pos, ◌+ℤ◌, nat_abs, ◌≤ℤ◌, ◌<ℤ◌, refl, ap, subst, inl, inr, mul-le-mul_right, suc-mul, arith}
use native.Mathlib.Decide.{ℕ_discrete}
use borrow.Author.Differences.{ints, abs_is}
use Rattle.numbers.specs.Totals.{total}
use Rattle.numbers.proofs.Totals.{total_same, total_le}
use Rattle.worths.specs.Heights.{height}
use Rattle.worths.specs.Kinds.{Pair, plus_pair, at_most_pair}
use Rattle.worths.specs.Values.{NearPair}

-- above -far, by both parts
rise : ℕ → ℤ → ℕ
rise far z = nat_abs (z +ℤ pos far)

firsts : ℕ → ℕ → (ℕ → Pair) → ℕ
firsts n far p = total n (λ v. rise far (p v).0)

seconds : ℕ → ℕ → (ℕ → Pair) → ℕ
seconds n far p = total n (λ v. rise far (p v).1)

seconds_le : (n far : ℕ) (p : ℕ → Pair) → ((v : ℕ) → v < n → NearPair far (p v)) → seconds n far p ≤ n * (far + far)
unfolding seconds rise
seconds_le zero far p h = omega arith
seconds_le (suc n) far p h = more (total n (λ v. nat_abs ((p v).1 +ℤ pos far))) (nat_abs ((p n).1 +ℤ pos far)) (seconds_le n far p (λ v k. h v (omega arith))) (one (p n).1 (h n (omega arith)).second)
  where
    one : (z : ℤ) → nat_abs z ≤ far → nat_abs (z +ℤ pos far) ≤ far + far
    one z k = omega (arith, ints, abs_is)

    more : (a b : ℕ) → a ≤ n * (far + far) → b ≤ far + far → a + b ≤ suc n * (far + far)
    more a b k l = omega arith

-- a pair below zero: by its first part, or by its second where the first is zero
pub below_parts : (d : Pair) → T (not (at_most_pair (pos 0, pos 0) d)) → (d.0 <ℤ pos 0) ⊎ ((d.0 ≡ pos 0) × (d.1 <ℤ pos 0))
below_parts d t = grind (arith, ints)

-- q is p with some pairs moved by d
abbrev pub Fallen : ℕ → (ℕ → Pair) → (ℕ → Pair) → Pair → Type 0
Fallen n p q d = (v : ℕ) → v < n → (q v ≡ p v) ⊎ (q v ≡ plus_pair (p v) d)

-- a total in which no term rises and one falls
falls : (n : ℕ) (f g : ℕ → ℕ) → ((v : ℕ) → v < n → g v ≤ f v) → (u : ℕ) → u < n → g u < f u → total n g < total n f
falls zero f g h u k l = absurd (omega arith)
falls (suc n) f g h u k l = go (ℕ_discrete u n) (λ j. falls n f g (λ v i. h v (omega arith)) u j l)
  where
    go : Dec (u ≡ n) → (u < n → total n g < total n f) → total n g + g n < total n f + f n
    go (yes e) r = omega (arith, total_le n g f (λ v i. h v (omega arith)), subst (λ i. g i < f i) e l)
    go (no e) r = omega (arith, r (omega arith), h n (omega arith))

module _ (n far : ℕ) (p q : ℕ → Pair) (d : Pair) (near_p : (v : ℕ) → v < n → NearPair far (p v)) (near_q : (v : ℕ) → v < n → NearPair far (q v)) (fallen : Fallen n p q d) where
  -- one part of one pair, which does not rise
  part_le : (a b e : ℤ) → nat_abs a ≤ far → nat_abs b ≤ far → (b ≡ a) ⊎ (b ≡ a +ℤ e) → e ≤ℤ pos 0 → rise far b ≤ rise far a
  unfolding rise
  part_le a b e h k s l = grind (arith, ints, abs_is)

  part_lt : (a b e : ℤ) → nat_abs a ≤ far → nat_abs b ≤ far → b ≡ a +ℤ e → e <ℤ pos 0 → rise far b < rise far a
  unfolding rise
  part_lt a b e h k s l = omega (arith, ints, abs_is)

  first_of : (v : ℕ) → v < n → ((q v).0 ≡ (p v).0) ⊎ ((q v).0 ≡ (p v).0 +ℤ d.0)
  first_of v k = grind (arith, ints, fallen v k)

  second_of : (v : ℕ) → v < n → ((q v).1 ≡ (p v).1) ⊎ ((q v).1 ≡ (p v).1 +ℤ d.1)
  second_of v k = grind (arith, ints, fallen v k)

  -- moved by less than nothing, one of them at least: the height falls
  pub height_falls : T (not (at_most_pair (pos 0, pos 0) d)) → (u : ℕ) → u < n → q u ≡ plus_pair (p u) d → height n far q < height n far p
  unfolding height firsts seconds rise
  height_falls t u k e = go (below_parts d t)
    where
      carry : (a b c f : ℕ) → a < b → c ≤ n * (far + far) → a * suc (n * (far + far)) + c < b * suc (n * (far + far)) + f
      carry a b c f h l = let m : suc a * suc (n * (far + far)) ≤ b * suc (n * (far + far)) = mul-le-mul_right (suc (n * (far + far))) h in step (a * suc (n * (far + far))) (b * suc (n * (far + far))) (suc a * suc (n * (far + far))) (n * (far + far)) refl m l
        where
          step : (x y z w : ℕ) → z ≡ suc a * suc w → z ≤ y → c ≤ w → a * suc w + c < y + f
          step x y z w e i j = omega (arith, suc-mul a (suc w))

      go : (d.0 <ℤ pos 0) ⊎ ((d.0 ≡ pos 0) × (d.1 <ℤ pos 0)) → height n far q < height n far p
      go (inl h) =
          carry (firsts n far q) (firsts n far p) (seconds n far q) (seconds n far p)
          (falls n (λ v. rise far (p v).0) (λ v. rise far (q v).0) (λ v i. part_le (p v).0 (q v).0 d.0 (near_p v i).first (near_q v i).first (first_of v i) (omega (arith, ints))) u k
          (part_lt (p u).0 (q u).0 d.0 (near_p u k).first (near_q u k).first (ap (λ (z : Pair). z.0) e) h))
          (seconds_le n far q near_q)
      go (inr h) =
          let same : firsts n far q ≡ firsts n far p = total_same n (λ v. rise far (q v).0) (λ v. rise far (p v).0) (λ v i. ap (rise far) (still (q v).0 (p v).0 (first_of v i))) in
          let less : seconds n far q < seconds n far p = falls n (λ v. rise far (p v).1) (λ v. rise far (q v).1) (λ v i. part_le (p v).1 (q v).1 d.1 (near_p v i).second (near_q v i).second (second_of v i) (omega (arith, ints, h.1))) u k
          (part_lt (p u).1 (q u).1 d.1 (near_p u k).second (near_q u k).second (ap (λ (z : Pair). z.1) e) h.1) in
          omega (arith, ap (λ (a : ℕ). a * suc (n * (far + far))) same)
        where
          still : (a b : ℤ) → (a ≡ b) ⊎ (a ≡ b +ℤ d.0) → a ≡ b
          still a b (inl s) = s
          still a b (inr s) = omega (arith, ints, h.0)
