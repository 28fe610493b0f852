-- All rows of numbers up to given ones.
use Rattle.std.specs.Prelude.{◌≡◌, ℕ, zero, suc, ◌⊎◌, List, [], ◌∷◌, ◌++◌, map}

-- an element of the list
abbrev pub Has : {A : Type 0} → A → List A → Type 0
Has a [] = ⊥
Has a (b ∷ l) = (a ≡ b) ⊎ Has a l

-- each of the rows behind each number up to m
abbrev pub spread : ℕ → List (List ℕ) → List (List ℕ)
spread zero rs = map (λ xs. 0 ∷ xs) rs
spread (suc m) rs = spread m rs ++ map (λ xs. suc m ∷ xs) rs

-- all rows of as many numbers, each up to its own
abbrev pub rows : List ℕ → List (List ℕ)
rows [] = [] ∷ []
rows (m ∷ ms) = spread m (rows ms)
