-- Both kinds of worth keep the laws. The proofs stand here, and not in proofs/, since the code's kinds carry them as values.
use Rattle.std.specs.Prelude.{◌≡◌, ℤ}
use Rattle.std.proofs.Common.{ap₂, arith}
use Rattle.std.proofs.lemmas.Int.{ints}
use Rattle.std.proofs.Math.IntN.{+ℤ_assoc, +ℤ_comm, +ℤ_idr, +ℤ_invr}
use Rattle.worths.specs.Kinds.{Ordered, plain, ranked, Pair}

pub plain_ordered : Ordered plain
plain_ordered = record {
  assoc = +ℤ_assoc;
  comm = +ℤ_comm;
  unit = +ℤ_idr;
  inverse = +ℤ_invr;
  total = λ u v. grind (arith, ints);
  trans = λ u v w h k. omega (arith, ints);
  antisym = λ u v h k. omega (arith, ints);
  keeps = λ u v w h. omega (arith, ints);
}

-- two pairs are equal part by part
pub pair_eq : {a b c d : ℤ} → a ≡ c → b ≡ d → ◌≡◌ {A = Pair} (a, b) (c, d)
pair_eq p q = ap₂ (λ x y. (x, y)) p q

pub ranked_ordered : Ordered ranked
ranked_ordered = record {
  assoc = λ u v w. pair_eq (+ℤ_assoc u.0 v.0 w.0) (+ℤ_assoc u.1 v.1 w.1);
  comm = λ u v. pair_eq (+ℤ_comm u.0 v.0) (+ℤ_comm u.1 v.1);
  unit = λ u. pair_eq (+ℤ_idr u.0) (+ℤ_idr u.1);
  inverse = λ u. pair_eq (+ℤ_invr u.0) (+ℤ_invr u.1);
  total = λ u v. grind (arith, ints);
  trans = λ u v w h k. grind (arith, ints);
  antisym = λ u v h k. grind (arith, ints);
  keeps = λ u v w h. grind (arith, ints);
}
