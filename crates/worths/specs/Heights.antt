-- How far a row of pairs, each part at most so far from zero, can still fall.
use Rattle.std.specs.Prelude.{ℕ, suc, ◌+◌, ◌*◌, pos, ◌+ℤ◌, unsigned_abs}
use Rattle.numbers.specs.Totals.{total}
use Rattle.worths.specs.Kinds.{Pair}

-- by the first parts, ties by the second ones
unfoldable pub height : ℕ → ℕ → (ℕ → Pair) → ℕ
height n far p = total n (λ v. unsigned_abs ((p v).0 +ℤ pos far)) * suc (n * (far + far)) + total n (λ v. unsigned_abs ((p v).1 +ℤ pos far))
