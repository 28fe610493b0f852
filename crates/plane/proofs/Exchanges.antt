-- The full list goes with the points: the same for the same points, turned round for exchanged ones.
use Rattle.std.proofs.Common.{◌⊎◌, List, [], ◌∷◌, map, refl, inl, inr}
use Rattle.plane.specs.Points.{Point, swap, Corner}
use Rattle.plane.specs.Lists.{In, Rises}
use Rattle.plane.specs.Facts.{SameOf, ExchangeOf}
use Rattle.plane.proofs.Corners.{corner_falls, corner_same, corner_swap}
use Rattle.plane.proofs.Members.{Falls, in_all, behind, turned_rises, turned_out, turned_in, swapped_out, swapped_in}

pub same_of : (P Q : Point → Type 0) → SameOf P Q
same_of P Q to from l f = record {
  rises = f.rises;
  sound = λ z i. corner_same P Q to from z (f.sound z i);
  complete = λ z k. f.complete z (corner_same Q P from to z k);
}

-- by rising first cost is by falling second cost
swapped_falls : (P : Point → Type 0) (l : List Point) → Rises l → ((z : Point) → In z l → Corner P z) → Falls (map swap l)
swapped_falls P [] r k = tt
swapped_falls P (x ∷ l) r k = (
  in_all _ (map swap l) (λ z i. corner_falls P x (swap z) (k x (inl refl)) (k (swap z) (inr (swapped_out l z i))) (behind x l r (swap z) (swapped_out l z i))),
  swapped_falls P l r.1 (λ z i. k z (inr i)),
)

pub exchange_of : (P Q : Point → Type 0) → ExchangeOf P Q
exchange_of P Q to from l f = record {
  rises = turned_rises (map swap l) [] (swapped_falls P l f.rises f.sound) tt (in_all _ (map swap l) (λ z i. tt));
  sound = λ z i. corner_swap P Q to from (swap z) (f.sound (swap z) (within z (turned_out (map swap l) [] z i)));
  complete = λ z k. turned_in (map swap l) [] z (inl (swapped_in l z (f.complete (swap z) (corner_swap Q P from to z k))));
}
  where
    within : (z : Point) → In z (map swap l) ⊎ ⊥ → In (swap z) l
    within z (inl i) = swapped_out l z i
    within z (inr i) = absurd i
