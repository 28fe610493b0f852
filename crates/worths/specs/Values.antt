-- What a worth of the code means: a ranked pair of whole numbers, of which a plain number has 0 as its second part.
use Rattle.std.specs.Prelude.{ℕ, ◌*◌, ◌^◌, ◌≤◌, cond, List, map, slice_index_or, unsigned_abs}
use Rattle.std.specs.declared.cmp.Ordering.TheVariants.{Less, Equal, Greater}
use Rattle.std.specs.declared.cmp.Ordering.{Ordering}
use Rattle.std.specs.Int.{int_wrap, w64}
use Rattle.worths.specs.Kinds.{Pair, at_most_pair, ranked}

-- each part is at most so far from zero
pub record NearPair (far : ℕ) (u : Pair) : Type 0 where
  pub first : unsigned_abs u.0 ≤ far
  pub second : unsigned_abs u.1 ≤ far

-- up to here sums and negations are exact
abbrev pub max_exact : ℕ
max_exact = 9 * 10 ^ 18

-- how far from zero each part of an arc's worth, and of a price, may be
abbrev pub max_worth : ℕ
max_worth = 4 * 10 ^ 12

abbrev pub max_price : ℕ
max_price = 10 ^ 15

-- each part as 64 bits hold it
abbrev pub wrapped_pair : Pair → Pair
wrapped_pair u = (int_wrap w64 u.0, int_wrap w64 u.1)

abbrev pub compared : Pair → Pair → Ordering
compared u v = cond (at_most_pair u v) (cond (at_most_pair v u) Equal Less) Greater

-- a row of worths as a worth for each number: nothing past its end
abbrev pub row_of : {W : Type 0} → (W → Pair) → List W → ℕ → Pair
row_of value row k = slice_index_or (map value row) k ranked.nil
