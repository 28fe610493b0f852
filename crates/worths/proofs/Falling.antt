-- Some times a pair below zero, put to a pair, makes it less.
use Rattle.std.proofs.Common.{◌≡◌, ℕ, ◌≤◌, not, T, ◌⊎◌, ℤ, pos, ◌+ℤ◌, ◌*ℤ◌, ◌<ℤ◌, ap, ◌∙◌, inl, inr, arith}
use borrow.Author.Differences.{ints}
use Rattle.numbers.proofs.Products.{lin}
use Rattle.worths.specs.Kinds.{Pair, at_most_pair}
use Rattle.worths.proofs.Heights.{below_parts}

-- the same of whole numbers
part_less : (d : ℕ) (s : ℤ) → 1 ≤ d → s <ℤ pos 0 → (pos d *ℤ s) <ℤ pos 0
part_less d s h k = grind (arith, ints)

part_none : (d : ℕ) (s : ℤ) → s ≡ pos 0 → pos d *ℤ s ≡ pos 0
part_none d s e = ap (λ z. pos d *ℤ z) e ∙ omega (arith, ints)

not_at_most : (a b c e : ℤ) → (c <ℤ a) ⊎ ((c ≡ a) × (e <ℤ b)) → T (not (at_most_pair (a, b) (c, e)))
not_at_most a b c e h4 = grind (arith, ints)

pub less_by : (u v s : Pair) (d : ℕ) → 1 ≤ d → T (not (at_most_pair (pos 0, pos 0) s)) → v.0 ≡ u.0 +ℤ pos d *ℤ s.0 → v.1 ≡ u.1 +ℤ pos d *ℤ s.1 → T (not (at_most_pair u v))
less_by u v s d h t e f = go (below_parts s t)
  where
    go : (s.0 <ℤ pos 0) ⊎ ((s.0 ≡ pos 0) × (s.1 <ℤ pos 0)) → T (not (at_most_pair u v))
    go (inl k) = not_at_most u.0 u.1 v.0 v.1 (inl (omega (arith, lin, part_less d s.0 h k)))
    go (inr k) = not_at_most u.0 u.1 v.0 v.1 (inr (omega (arith, lin, part_none d s.0 k.0), omega (arith, lin, part_less d s.1 h k.1)))
