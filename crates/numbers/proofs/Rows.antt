-- All rows of numbers up to given ones: finitely many, so that what can be decided of a row can be decided of all of them.
use Rattle.std.proofs.Common.{◌≡◌, ℕ, zero, suc, ◌<◌, ◌≤◌, List, [], ◌∷◌, ◌++◌, map, length, get_or, refl, ap, subst, inl, inr, arith}
use Rattle.std.proofs.lemmas.Int.{ints}
use native.Mathlib.Decide.{dec_le}
use Rattle.numbers.specs.Rows.{Has, spread, rows}

has_left : {A : Type 0} (a : A) (l k : List A) → Has a l → Has a (l ++ k)
has_left a [] k m = absurd m
has_left a (b ∷ l) k (inl e) = inl e
has_left a (b ∷ l) k (inr m) = inr (has_left a l k m)

has_right : {A : Type 0} (a : A) (l k : List A) → Has a k → Has a (l ++ k)
has_right a [] k m = m
has_right a (b ∷ l) k m = inr (has_right a l k m)

has_map : {A B : Type 0} (f : A → B) (a : A) (l : List A) → Has a l → Has (f a) (map f l)
has_map f a [] m = absurd m
has_map f a (b ∷ l) (inl e) = inl (ap f e)
has_map f a (b ∷ l) (inr m) = inr (has_map f a l m)

in_spread : (m x : ℕ) (xs : List ℕ) (rs : List (List ℕ)) → x ≤ m → Has xs rs → Has (x ∷ xs) (spread m rs)
in_spread zero zero xs rs h k = has_map (λ ys. 0 ∷ ys) xs rs k
in_spread zero (suc x) xs rs h k = absurd (omega arith)
in_spread (suc m) x xs rs h k = go (dec_le x m) (λ j. in_spread m x xs rs j k)
  where
    go : Dec (x ≤ m) → (x ≤ m → Has (x ∷ xs) (spread m rs)) → Has (x ∷ xs) (spread m rs ++ map (λ ys. suc m ∷ ys) rs)
    go (yes j) r = has_left (x ∷ xs) (spread m rs) (map (λ ys. suc m ∷ ys) rs) (r j)
    go (no j) r =
        let e : suc m ≡ x = omega arith in
        subst (λ z. Has (z ∷ xs) (spread m rs ++ map (λ ys. suc m ∷ ys) rs)) e (has_right (suc m ∷ xs) (spread m rs) (map (λ ys. suc m ∷ ys) rs) (has_map (λ ys. suc m ∷ ys) xs rs k))

pub in_rows : (ms xs : List ℕ) → length xs ≡ length ms → ((i : ℕ) → i < length ms → get_or xs i 0 ≤ get_or ms i 0) → Has xs (rows ms)
in_rows [] [] e h = inl refl
in_rows [] (x ∷ xs) e h = absurd (omega arith)
in_rows (m ∷ ms) [] e h = absurd (omega arith)
in_rows (m ∷ ms) (x ∷ xs) e h = in_spread m x xs (rows ms) (h 0 (omega arith)) (in_rows ms xs (omega arith) (λ i k. h (suc i) (omega arith)))

-- ---- deciding

pub both_dec : {A B : Type 0} → Dec A → Dec B → Dec (A × B)
both_dec h k = grind (arith, ints)

pub all_dec : (n : ℕ) (P : ℕ → Type 0) → ((i : ℕ) → Dec (P i)) → Dec ((i : ℕ) → i < n → P i)
all_dec zero P d = yes (λ i h. absurd (omega arith))
all_dec (suc n) P d = both (all_dec n P d) (d n)
  where
    both : Dec ((i : ℕ) → i < n → P i) → Dec (P n) → Dec ((i : ℕ) → i < suc n → P i)
    both h k = grind (arith, ints)
