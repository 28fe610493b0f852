-- Where nothing stands in a list, it has ended.
use Rattle.std.proofs.Common.{◌≡◌, ℕ, zero, suc, ◌≤◌, List, [], ◌∷◌, length, None, arith}
use Rattle.std.specs.List.{slice_get}

pub nth_none : {X : Type 0} (xs : List X) (i : ℕ) → None ≡ slice_get xs i → length xs ≤ i
nth_none [] i e = omega arith
nth_none (y ∷ xs) zero e = let z : ◌≡◌ {A = ℕ} 0 1 = cc in omega arith
nth_none (y ∷ xs) (suc i) e = let h = nth_none xs i e in omega arith
