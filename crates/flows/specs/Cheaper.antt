-- A number that falls whenever a flow becomes worth less, for every kind of worth.
use Rattle.std.specs.Prelude.{ℕ, ◌+◌, Bool, cond, not, List, [], ◌∷◌, map}
use Rattle.numbers.specs.Rows.{rows}
use Rattle.network.specs.Net.{Net}
use Rattle.worths.specs.Kinds.{Kind}
use Rattle.flows.specs.Prices.{worth_of}

-- how many elements pass a test
abbrev pub count : {A : Type 0} → (A → Bool) → List A → ℕ
count p [] = 0
count p (a ∷ l) = cond (p a) 1 0 + count p l

-- the rows within the mosts that are worth less than x
unfoldable pub cheaper : (K : Kind) → Net → (ℕ → K.Worth) → List ℕ → ℕ
cheaper K n worth x = count (λ y. not (K.at_most (worth_of K n worth x) (worth_of K n worth y))) (rows (map (λ r. r.most) n.roads))
