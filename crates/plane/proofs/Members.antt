-- Lists of points: who is in them, how they rise, begin and end, and what becomes of that when they are turned round.
use Rattle.std.proofs.Common.{◌≡◌, ◌⊎◌, List, [], ◌∷◌, ◌++◌, map, ◌≤ℤ◌, ◌<ℤ◌, sym, refl, ap, subst, inl, inr, arith}
use mathlib.Core.List.{reverse_aux}
use Rattle.std.specs.List.{AllByRecursion}
use Rattle.numbers.proofs.Products.{lin}
use Rattle.plane.specs.Points.{Point, first, swap}
use Rattle.plane.specs.Lists.{In, Rises, Front, Heads, Ends}

pub all_in : (Q : Point → Type 0) (l : List Point) → AllByRecursion Q l → (z : Point) → In z l → Q z
all_in Q [] h z i = absurd i
all_in Q (x ∷ l) h z (inl e) = subst Q (sym e) h.0
all_in Q (x ∷ l) h z (inr i) = all_in Q l h.1 z i

pub in_all : (Q : Point → Type 0) (l : List Point) → ((z : Point) → In z l → Q z) → AllByRecursion Q l
in_all Q [] h = tt
in_all Q (x ∷ l) h = (h x (inl refl), in_all Q l (λ z i. h z (inr i)))

-- what comes behind the head lies right of it
pub behind : (x : Point) (l : List Point) → Rises (x ∷ l) → (z : Point) → In z l → x.0 <ℤ z.0
behind x l r = all_in (λ y. x.0 <ℤ y.0) l r.0

-- ---- how a rising list begins and ends

pub heads_lowest : (z : Point) (l : List Point) → Rises l → In z l → ((y : Point) → In y l → z.0 ≤ℤ y.0) → Heads z l
heads_lowest z [] r i low = absurd i
heads_lowest z (x ∷ l) r (inl e) low = (l, ap (λ y. y ∷ l) (sym e))
heads_lowest z (x ∷ l) r (inr i) low = absurd (omega (arith, lin, behind x l r z i, low x (inl refl)))

pub ends_highest : (z : Point) (l : List Point) → Rises l → In z l → ((y : Point) → In y l → y.0 ≤ℤ z.0) → Ends z l
ends_highest z [] r i high = absurd i
ends_highest z (x ∷ []) r (inl e) high = ([], ap (λ y. y ∷ []) (sym e))
ends_highest z (x ∷ []) r (inr i) high = absurd i
ends_highest z (x ∷ y ∷ l) r (inl e) high = absurd (omega (arith, lin, ap first e, behind x (y ∷ l) r y (inl refl), high y (inr (inl refl))))
ends_highest z (x ∷ y ∷ l) r (inr i) high =
    let more : Ends z (y ∷ l) = ends_highest z (y ∷ l) r.1 i (λ v j. high v (inr j)) in
    (x ∷ more.0, ap (λ m. x ∷ m) more.1)

-- two heads are one where each is in the other's list
same_head : (x y : Point) (l m : List Point) → Rises (x ∷ l) → Rises (y ∷ m) → In x (y ∷ m) → In y (x ∷ l) → x ≡ y
same_head x y l m r s (inl e) j = e
same_head x y l m r s (inr i) (inl e) = sym e
same_head x y l m r s (inr i) (inr j) = absurd (omega (arith, lin, behind x l r y j, behind y m s x i))

-- and what comes behind the one comes behind the other
same_tail : (x y z : Point) (l m : List Point) → Rises (x ∷ l) → x ≡ y → In z l → In z (y ∷ m) → In z m
same_tail x y z l m r e i (inl f) = absurd (omega (arith, lin, behind x l r z i, ap first e, ap first f))
same_tail x y z l m r e i (inr j) = j

-- rising lists of the same points are equal
pub same_list : (l m : List Point) → Rises l → Rises m → ((z : Point) → In z l → In z m) → ((z : Point) → In z m → In z l) → l ≡ m
same_list [] [] r s to from = refl
same_list [] (y ∷ m) r s to from = absurd (from y (inl refl))
same_list (x ∷ l) [] r s to from = absurd (to x (inl refl))
same_list (x ∷ l) (y ∷ m) r s to from =
    let e : x ≡ y = same_head x y l m r s (to x (inl refl)) (from y (inl refl)) in
    let to_tail : (z : Point) → In z l → In z m = λ z i. same_tail x y z l m r e i (to z (inr i)) in
    let from_tail : (z : Point) → In z m → In z l = λ z i. same_tail y x z m l s (sym e) i (from z (inr i)) in
    let f : l ≡ m = same_list l m r.1 s.1 to_tail from_tail in
    λ i. e i ∷ f i

-- g begins l where it has whatever of l lies no further right than one of its own
pub front_list : (g l : List Point) → Rises g → Rises l → ((z : Point) → In z g → In z l) → ((y z : Point) → In y l → In z g → y.0 ≤ℤ z.0 → In y g) → Front g l
front_list [] l r s to from = (l, refl)
front_list (x ∷ g) [] r s to from = absurd (to x (inl refl))
front_list (x ∷ g) (y ∷ l) r s to from =
    let e : x ≡ y = same_head x y g l r s (to x (inl refl)) (from y x (inl refl) (inl refl) (lowest (to x (inl refl)))) in
    let to_tail : (z : Point) → In z g → In z l = λ z i. same_tail x y z g l r e i (to z (inr i)) in
    let from_tail : (u z : Point) → In u l → In z g → u.0 ≤ℤ z.0 → In u g = λ u z i j h. same_tail y x u l g s (sym e) i (from u z (inr i) (inr j) h) in
    let more : Front g l = front_list g l r.1 s.1 to_tail from_tail in
    (more.0, λ i. sym e i ∷ more.1 i)
  where
    lowest : In x (y ∷ l) → y.0 ≤ℤ x.0
    lowest (inl e) = omega (arith, lin, ap first e)
    lowest (inr i) = omega (arith, lin, behind y l s x i)

-- ---- one point more at the end

pub snoc_in : (l : List Point) (c z : Point) → In z l ⊎ (z ≡ c) → In z (l ++ (c ∷ []))
snoc_in [] c z (inl i) = absurd i
snoc_in [] c z (inr e) = inl e
snoc_in (x ∷ l) c z (inl (inl e)) = inl e
snoc_in (x ∷ l) c z (inl (inr i)) = inr (snoc_in l c z (inl i))
snoc_in (x ∷ l) c z (inr e) = inr (snoc_in l c z (inr e))

pub snoc_out : (l : List Point) (c z : Point) → In z (l ++ (c ∷ [])) → In z l ⊎ (z ≡ c)
snoc_out [] c z (inl e) = inr e
snoc_out [] c z (inr i) = absurd i
snoc_out (x ∷ l) c z (inl e) = inl (inl e)
snoc_out (x ∷ l) c z (inr i) = go (snoc_out l c z i)
  where
    go : In z l ⊎ (z ≡ c) → In z (x ∷ l) ⊎ (z ≡ c)
    go (inl j) = inl (inr j)
    go (inr e) = inr e

pub snoc_rises : (l : List Point) (c : Point) → Rises l → ((z : Point) → In z l → z.0 <ℤ c.0) → Rises (l ++ (c ∷ []))
snoc_rises [] c r h = (tt, tt)
snoc_rises (x ∷ l) c r h = (in_all _ (l ++ (c ∷ [])) (λ z i. go z (snoc_out l c z i)), snoc_rises l c r.1 (λ z i. h z (inr i)))
  where
    go : (z : Point) → In z l ⊎ (z ≡ c) → x.0 <ℤ z.0
    go z (inl i) = behind x l r z i
    go z (inr e) = omega (arith, lin, ap first e, h x (inl refl))

-- ---- turned round

abbrev pub Falls : List Point → Type 0
Falls [] = Unit {0}
Falls (x ∷ l) = AllByRecursion (λ y. y.0 <ℤ x.0) l × Falls l

pub turned_rises : (l r : List Point) → Falls l → Rises r → AllByRecursion (λ x. AllByRecursion (λ y. x.0 <ℤ y.0) r) l → Rises (reverse_aux l r)
turned_rises [] r f s h = s
turned_rises (x ∷ l) r f s h =
    turned_rises l (x ∷ r) f.1 (h.0, s) (in_all _ l (λ z i. (all_in (λ y. y.0 <ℤ x.0) l f.0 z i, all_in _ l h.1 z i)))

pub turned_out : (l r : List Point) (z : Point) → In z (reverse_aux l r) → In z l ⊎ In z r
turned_out [] r z i = inr i
turned_out (x ∷ l) r z i = go (turned_out l (x ∷ r) z i)
  where
    go : In z l ⊎ In z (x ∷ r) → In z (x ∷ l) ⊎ In z r
    go (inl j) = inl (inr j)
    go (inr (inl e)) = inl (inl e)
    go (inr (inr j)) = inr j

pub turned_in : (l r : List Point) (z : Point) → In z l ⊎ In z r → In z (reverse_aux l r)
turned_in [] r z (inl i) = absurd i
turned_in [] r z (inr i) = i
turned_in (x ∷ l) r z (inl (inl e)) = turned_in l (x ∷ r) z (inr (inl e))
turned_in (x ∷ l) r z (inl (inr i)) = turned_in l (x ∷ r) z (inl i)
turned_in (x ∷ l) r z (inr i) = turned_in l (x ∷ r) z (inr (inr i))

-- ---- exchanged

pub swapped_out : (l : List Point) (z : Point) → In z (map swap l) → In (swap z) l
swapped_out [] z i = i
swapped_out (x ∷ l) z (inl e) = inl (ap swap e)
swapped_out (x ∷ l) z (inr i) = inr (swapped_out l z i)

pub swapped_in : (l : List Point) (z : Point) → In (swap z) l → In z (map swap l)
swapped_in [] z i = i
swapped_in (x ∷ l) z (inl e) = inl (ap swap e)
swapped_in (x ∷ l) z (inr i) = inr (swapped_in l z i)
