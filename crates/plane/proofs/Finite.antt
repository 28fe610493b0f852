-- Points that some list has: their minima are found by going through it, and the search then builds their full list.
use Rattle.std.proofs.Common.{◌≡◌, ℕ, zero, suc, ◌⊎◌, List, [], ◌∷◌, ◌++◌, ℤ, pos, ◌+ℤ◌, ◌-ℤ◌, ◌≤ℤ◌, refl, ap, subst, inl, inr, ⊎_elim, arith}
use Rattle.std.proofs.lemmas.Int.{ints}
use borrow.Author.Differences.{up}
use Rattle.std.proofs.lemmas.Int.{by_lt_z}
use Rattle.numbers.proofs.Products.{lin}
use Rattle.numbers.proofs.Factors.{from_above}
use Rattle.plane.specs.Points.{Point, first, second, weigh, turn_p, turn_q, Corner, Least, Within}
use Rattle.plane.specs.Lists.{In, Full, Upto, After, Candidate, Listed}
use Rattle.plane.specs.Facts.{ExistsOf, EmptyOf}
use Rattle.plane.proofs.Sides.{point_decide}
use Rattle.plane.proofs.Minima.{first_corner}
use Rattle.plane.proofs.Searches.{step_of, start_of, search_of}
use Rattle.plane.proofs.Fronts.{begins_of, goes_on_of, finishes_of}

-- ---- minima

module _ (f g : Point → ℤ) where
  -- x is no worse than y by (f, g)
  abbrev Beats : Point → Point → Type 0
  Beats x y = (f x ≤ℤ f y) × (f y ≡ f x → g x ≤ℤ g y)

  beats_self : (x y : Point) → y ≡ x → Beats x y
  beats_self x y e = (omega (arith, lin, ap f e), λ h. omega (arith, lin, ap g e))

  beats_through : (x y z : Point) → Beats x y → Beats y z → Beats x z
  beats_through x y z h k = grind (arith, ints)

  beats_either : (x y : Point) → Beats x y ⊎ Beats y x
  beats_either x y = grind (arith, ints)

  best : (x : Point) (l : List Point) → (z : Point) × In z (x ∷ l) × ((y : Point) → In y (x ∷ l) → Beats z y)
  best x [] = (x, inl refl, only)
    where
      only : (y : Point) → In y (x ∷ []) → Beats x y
      only y (inl e) = beats_self x y e
      only y (inr i) = absurd i
  best x (v ∷ l) = choose (best v l)
    where
      choose : ((z : Point) × In z (v ∷ l) × ((y : Point) → In y (v ∷ l) → Beats z y)) → (z : Point) × In z (x ∷ v ∷ l) × ((y : Point) → In y (x ∷ v ∷ l) → Beats z y)
      choose r = ⊎_elim
          (λ (h : Beats x r.0). (x, inl refl, keep_new h))
          (λ (h : Beats r.0 x). (r.0, inr r.1, keep_old h))
          (beats_either x r.0)
        where
          keep_new : Beats x r.0 → (y : Point) → In y (x ∷ v ∷ l) → Beats x y
          keep_new h y (inl e) = beats_self x y e
          keep_new h y (inr i) = beats_through x r.0 y h (r.2 y i)

          keep_old : Beats r.0 x → (y : Point) → In y (x ∷ v ∷ l) → Beats r.0 y
          keep_old h y (inl e) = beats_through r.0 x y h (beats_self x y e)
          keep_old h y (inr i) = r.2 y i

-- of listed points, if there is one, there is a least
pub least_listed : (P : Point → Type 0) → Listed P → (x : Point) → P x → (f g : Point → ℤ) → (z : Point) × Least P f g z
least_listed P s x h f g = through s.points s.sound s.complete (s.complete x h)
  where
    through : (l : List Point) → ((z : Point) → In z l → P z) → ((z : Point) → P z → In z l) → In x l → (z : Point) × Least P f g z
    through [] sound complete i = absurd i
    through (v ∷ l) sound complete i =
        let r = best f g v l in (
          r.0,
          record {
            stands = sound r.0 r.1;
            least = λ y k. (r.2 y (complete y k)).0;
            tie = λ y k e. (r.2 y (complete y k)).1 e;
          },
        )

-- ---- the search, run on the minima

module _ (B : ℕ) (P : Point → Type 0) (w : Within B P) (minimum : (f g : Point → ℤ) → (z : Point) × Least P f g z) where
  -- the candidate's first cost falls towards that of a
  seek : (n : ℕ) (a b : Point) → Corner P a → Candidate P a b → b.0 ≤ℤ (a.0 +ℤ pos n) → (c : Point) × After P a c
  seek zero a b k d h = absurd (omega (arith, lin, d.right))
  seek (suc n) a b k d h =
      let m = minimum (weigh (turn_p a b) (turn_q a b)) second in
      let c : Point = m.0 in
      let l : Least P (weigh (turn_p a b) (turn_q a b)) second c = m.1 in
      let ends : c ≡ b → (c : Point) × After P a c = λ e. (b, step_of P B a b w k.stands d.right d.below (subst (Least P (weigh (turn_p a b) (turn_q a b)) second) e l)) in
      by_lt_z (weigh (turn_p a b) (turn_q a b) c) (weigh (turn_p a b) (turn_q a b) a)
      (λ less. let s = (search_of P a b c k d l).1 less in seek n a c k s.0 (omega (arith, lin, s.1)))
      (λ no_less. ends ((search_of P a b c k d l).0 (omega (arith, lin, l.least a k.stands))))

  next : (a : Point) → Corner P a → Least P second first a ⊎ ((c : Point) × After P a c)
  next a k = by (minimum second first)
    where
      by : ((e : Point) × Least P second first e) → Least P second first a ⊎ ((c : Point) × After P a c)
      by (e, l) = decided (point_decide e a)
        where
          decided : Dec (e ≡ a) → Least P second first a ⊎ ((c : Point) × After P a c)
          decided (yes f) = inl (subst (Least P second first) f l)
          decided (no n) = inr (seek (up (e.0 -ℤ a.0)) a e k (start_of P a e k l n) (omega (arith, lin)))

  -- the first costs of corners rise towards B
  build : (n : ℕ) (l : List Point) (a : Point) → Upto P l a → pos B ≤ℤ (a.0 +ℤ pos n) → (m : List Point) × Full P m
  build zero l a u h = ⊎_elim
      (λ (e : Least P second first a). (l, finishes_of P l a u e))
      (λ (s : (c : Point) × After P a c). absurd (omega (arith, lin, s.1.right, from_above B s.0.0 (w.first_near s.0 s.1.corner.stands))))
      (next a u.here)
  build (suc n) l a u h = ⊎_elim
      (λ (e : Least P second first a). (l, finishes_of P l a u e))
      (λ (s : (c : Point) × After P a c). build n (l ++ (s.0 ∷ [])) s.0 (goes_on_of P l a s.0 u s.1) (omega (arith, lin, s.1.right)))
      (next a u.here)

  built : (m : List Point) × Full P m
  built =
      let f = minimum first second in
      let a : Point = f.0 in
      build (up (pos B -ℤ a.0)) (a ∷ []) a (begins_of P B a w f.1) (omega (arith, lin))

-- ---- there is a full list, and where it is empty

full_of_none : (P : Point → Type 0) → ((z : Point) → P z → ⊥) → Full P []
full_of_none P none = record {
  rises = tt;
  sound = λ z i. absurd i;
  complete = λ z k. none z k.stands;
}

pub exists_of : (P : Point → Type 0) → ExistsOf P
exists_of P B w s = by s.points s.sound s.complete
  where
    by : (l : List Point) → ((z : Point) → In z l → P z) → ((z : Point) → P z → In z l) → (m : List Point) × Full P m
    by [] sound complete = ([], full_of_none P complete)
    by (x ∷ l) sound complete = built B P w (least_listed P s x (sound x (inl refl)))

pub empty_of : (P : Point → Type 0) → EmptyOf P
empty_of P B w s = (none, full_of_none P)
  where
    none : Full P [] → (z : Point) → P z → ⊥
    none f z h = let m = least_listed P s z h first second in f.complete m.0 (first_corner B P m.0 w m.1)
