-- How far a form agrees with some words.
use Rattle.std.proofs.Common.{◌≡◌, ℕ, ◌+◌, ◌≤◌, max, eqb, cond, List, [], ◌∷◌, length, take, sym, refl, ap, ◌∙◌, arith}
use native.Mathlib.Nat.{max-zero, max-le, zero-max}
use Rattle.std.specs.List.{prefix_len, common_prefix_len, zip, fold}
use Rattle.std.proofs.lemmas.List.Folds.{length-prefix_len}
use Rattle.std.proofs.lemmas.List.Sums.{common_prefix_len-le}
use Rattle.lines.specs.declared.word.Word.{Word}
use Rattle.lines.specs.Word.{spelt, agree, furthest}

zipped : (xs ys : List ℕ) → prefix_len (λ p. eqb p.0 p.1) (zip xs ys) ≡ common_prefix_len eqb xs ys
zipped [] ys = refl
zipped (x ∷ xs) [] = refl
zipped (x ∷ xs) (y ∷ ys) = ap (λ n. cond (eqb x y) (1 + n) 0) (zipped xs ys)

-- how many pairs `take_while` gives
pub agree_zipped : (xs ys : List ℕ) → length (take (prefix_len (λ p. eqb p.0 p.1) (zip xs ys)) (zip xs ys)) ≡ common_prefix_len eqb xs ys
agree_zipped xs ys = length-prefix_len (λ p. eqb p.0 p.1) (zip xs ys) ∙ zipped xs ys

max_assoc : (a b c : ℕ) → max (max a b) c ≡ max a (max b c)
max_assoc a b c = omega arith

from_far : (form : List ℕ) (words : List Word) (far : ℕ) → fold (λ n w. max n (agree w form)) far words ≡ max far (furthest words form)
from_far form [] far = sym (max-zero far)
from_far form (w ∷ ws) far = from_far form ws (max far (agree w form)) ∙ max_assoc far (agree w form) (furthest ws form)

pub furthest_folded : (form : List ℕ) (words : List Word) → fold (λ n w. max n (agree w form)) 0 words ≡ furthest words form
furthest_folded form words = from_far form words 0 ∙ zero-max (furthest words form)

pub furthest_within : (form : List ℕ) (words : List Word) → furthest words form ≤ length form
furthest_within form [] = omega arith
furthest_within form (w ∷ ws) = max-le (common_prefix_len-le eqb (spelt w) form).1 (furthest_within form ws)
