-- Why a search for a best flow ends, for every kind of worth: the rows within the mosts that are worth less grow fewer.
use Rattle.std.proofs.Common.{◌≡◌, ℕ, ◌<◌, ◌≤◌, Bool, cond, not, T, List, [], ◌∷◌, map, length, get_or, sym, ◌∙◌, subst, inl, inr, arith, T_not}
use Rattle.std.proofs.lemmas.Int.{ints}
use lib.Dec.{not_T}
use Rattle.std.proofs.lemmas.List.{get_or-map, length-map}
use Rattle.numbers.specs.Rows.{Has, rows}
use Rattle.numbers.proofs.Rows.{in_rows}
use Rattle.network.specs.Arcs.{road_at, nowhere}
use Rattle.network.specs.Net.{Net, arc_count}
use Rattle.worths.specs.Kinds.{Kind, Ordered}
use Rattle.flows.specs.Cheaper.{count, cheaper}
use Rattle.flows.specs.Flows.{on}
use Rattle.flows.specs.Prices.{worth_of}
use Rattle.flows.proofs.Sums as S

one_le : (a b : Bool) → (T a → T b) → cond a 1 0 ≤ cond b 1 0
one_le a b h = grind (arith, ints)

one_lt : (a b : Bool) → T (not a) → T b → cond a 1 0 < cond b 1 0
one_lt a b h k = grind (arith, ints)

count_le : {A : Type 0} (p q : A → Bool) (l : List A) → ((a : A) → T (p a) → T (q a)) → count p l ≤ count q l
count_le p q [] h = omega arith
count_le p q (a ∷ l) h = omega (arith, count_le p q l h, one_le (p a) (q a) (h a))

count_lt : {A : Type 0} (p q : A → Bool) (l : List A) (b : A) → ((a : A) → T (p a) → T (q a)) → Has b l → T (not (p b)) → T (q b) → count p l < count q l
count_lt p q [] b h m x y = absurd m
count_lt p q (a ∷ l) b h (inl e) x y =
    omega (arith, count_le p q l h, one_lt (p a) (q a) (subst (λ c. T (not (p c))) e x) (subst (λ c. T (q c)) e y))
count_lt p q (a ∷ l) b h (inr m) x y = omega (arith, count_lt p q l b h m x y, one_le (p a) (q a) (h a))

module _ {K : Kind} (O : Ordered K) where
  -- a row within the mosts that is worth less has fewer
  pub cheaper_falls : (n : Net) (worth : ℕ → K.Worth) (x y : List ℕ) → length y ≡ arc_count n → ((a : ℕ) → a < arc_count n → on y a ≤ (road_at n.roads a).most)
      → T (not (K.at_most (worth_of K n worth x) (worth_of K n worth y))) → cheaper K n worth y < cheaper K n worth x
  unfolding cheaper
  cheaper_falls n worth x y long high h =
      count_lt (λ z. not (K.at_most (w y) (w z))) (λ z. not (K.at_most (w x) (w z))) (rows (map (λ r. r.most) n.roads)) y
      (λ z t. not_T (K.at_most (w x) (w z)) (λ u. T_not (K.at_most (w y) (w z)) t (O.trans (w y) (w x) (w z) (S.at_most_other O (w x) (w y) h) u)))
      (in_rows (map (λ r. r.most) n.roads) y (long ∙ sym (length-map n.roads (λ r. r.most)))
      (λ i k.
      let j : i < arc_count n = subst (λ c. i < c) (length-map n.roads (λ r. r.most)) k in
      subst (λ c. get_or y i 0 ≤ c) (sym (get_or-map (λ r. r.most) n.roads i nowhere 0 j)) (high i j)))
      (twice (K.at_most (w y) (w y)) (S.at_most_refl O (w y))) h
    where
      w : List ℕ → K.Worth
      w z = worth_of K n worth z

      twice : (b : Bool) → T b → T (not (not b))
      twice b t = grind (arith, ints)
