-- Sums of natural numbers over an index.
use Rattle.std.proofs.Common.{◌≡◌, ℕ, zero, suc, ◌+◌, ◌<◌, ◌≤◌, ◌≢◌, List, [], ◌∷◌, length, get_or, sum_by, sym, refl, ap, ◌∙◌, ap₂, arith}
use native.Mathlib.Decide.{ℕ_discrete}
use Rattle.std.proofs.lemmas.List.Sums.{sum_by-cons}
use Rattle.numbers.specs.Totals.{total}

pub total_same : (n : ℕ) (f g : ℕ → ℕ) → ((i : ℕ) → i < n → f i ≡ g i) → total n f ≡ total n g
total_same zero f g h = refl
total_same (suc n) f g h = ap₂ (λ a b. a + b) (total_same n f g (λ i k. h i (omega arith))) (h n (omega arith))

pub total_add : (n : ℕ) (f g : ℕ → ℕ) → total n (λ i. f i + g i) ≡ total n f + total n g
total_add zero f g = refl
total_add (suc n) f g = omega (arith, total_add n f g)

-- two rows that differ at i alone
pub total_change : (n : ℕ) (f g : ℕ → ℕ) (i : ℕ) → i < n → ((j : ℕ) → j < n → j ≢ i → f j ≡ g j) → total n f + g i ≡ total n g + f i
total_change zero f g i h same = absurd (omega arith)
total_change (suc n) f g i h same = go (ℕ_discrete i n) (λ k. total_change n f g i k (λ j a b. same j (omega arith) b))
  where
    go : Dec (i ≡ n) → (i < n → total n f + g i ≡ total n g + f i) → total n f + f n + g i ≡ total n g + g n + f i
    go (yes e) r =
        let s : total n f ≡ total n g = total_same n f g (λ j a. same j (omega arith) (λ q. omega arith)) in
        let p : g i ≡ g n = ap g e in
        let q : f i ≡ f n = ap f e in
        omega arith
    go (no d) r =
        let k : i < n = omega arith in
        let p : total n f + g i ≡ total n g + f i = r k in
        let q : f n ≡ g n = same n (omega arith) (λ u. d (sym u)) in
        omega arith

pub total_le : (n : ℕ) (f g : ℕ → ℕ) → ((i : ℕ) → i < n → f i ≤ g i) → total n f ≤ total n g
total_le zero f g h = omega arith
total_le (suc n) f g h = omega (arith, total_le n f g (λ i k. h i (omega arith)), h n (omega arith))

-- a part of the sum
pub total_part : (k n : ℕ) (f : ℕ → ℕ) → k ≤ n → total k f ≤ total n f
total_part k zero f h = let e : k ≡ 0 = omega arith in omega (arith, ap (λ (m : ℕ). total m f) e)
total_part k (suc n) f h = go (ℕ_discrete k (suc n)) (λ l. total_part k n f l)
  where
    go : Dec (k ≡ suc n) → (k ≤ n → total k f ≤ total n f) → total k f ≤ total n f + f n
    go (yes e) r = omega (arith, ap (λ (m : ℕ). total m f) e)
    go (no d) r = let l : k ≤ n = omega arith in omega (arith, r l)

-- the first term apart
pub total_front : (n : ℕ) (f : ℕ → ℕ) → total (suc n) f ≡ f 0 + total n (λ i. f (suc i))
total_front zero f = omega arith
total_front (suc n) f = omega (arith, total_front n f)

-- over the elements of a list
pub total_list : {A : Type 0} (f : A → ℕ) (xs : List A) (d : A) → total (length xs) (λ i. f (get_or xs i d)) ≡ sum_by f xs
total_list f [] d = refl
total_list f (x ∷ xs) d = total_front (length xs) (λ i. f (get_or (x ∷ xs) i d)) ∙ ap (λ k. f x + k) (total_list f xs d) ∙ sym (sum_by-cons f x xs)
