-- The test of a flow against reduced worths.
use Rattle.std.proofs.Common.{◌≡◌, ℕ, ◌<◌, Bool, true, false, List, length, get_or, Decides, sym, refl, ap, ◌∙◌, subst, MatchBool, arith}
use Rattle.std.proofs.lemmas.Int.{ints}
use Rattle.network.specs.Arcs.{road_at, nowhere}
use Rattle.network.specs.declared.road.Road.{Road}
use Rattle.std.specs.List.{AllWithin, HoldsAt, enumerate_from}
use Rattle.std.proofs.lemmas.List.FromFn.{length-enumerate_from, get_or-enumerate_from}
use Rattle.std.proofs.lemmas.Bool.Decides.{Decides-like}
use Rattle.worths.specs.Kinds.{Pair, ranked}
use Rattle.worths.specs.Fit.{FitsBy}
use Rattle.worths.specs.Values.{NearPair, wrapped_pair, max_exact}
use Rattle.worths.proofs.Ranges.{wrapped_near}

-- a road with its number, read at that number
numbered : (roads : List Road) (a : ℕ) → a < length roads → get_or (enumerate_from 0 roads) a (0, nowhere) ≡ (a, road_at roads a)
numbered roads a l = get_or-enumerate_from 0 roads a (0, nowhere) l ∙ ap (λ (k : ℕ). (k, road_at roads a)) (omega arith)

-- a test of each road with its number is a test of each arc
pub decides_arcs :
    (r : Bool) (roads : List Road) (P : ℕ → Road → Type 0)
    → MatchBool r (AllWithin (λ (x : ℕ × Road). P x.0 x.1) (enumerate_from 0 roads) 0 (length (enumerate_from 0 roads))) ((k : ℕ) × (k < length (enumerate_from 0 roads)) × HoldsAt (λ (x : ℕ × Road). P x.0 x.1 → ⊥) (enumerate_from 0 roads) k)
    → Decides r ((a : ℕ) → a < length roads → P a (road_at roads a))
decides_arcs true roads P all = (λ _ a l. subst (λ (x : ℕ × Road). P x.0 x.1) (numbered roads a l) (all a (0, nowhere) (omega arith) (rw length-enumerate_from l)), λ _. refl)
decides_arcs false roads P (a, l, none) =
    let k : a < length roads = rw length-enumerate_from at l in
    (λ t. cc, λ all. absurd (none (0, nowhere) (subst (λ (x : ℕ × Road). P x.0 x.1) (sym (numbered roads a k)) (all a k))))

fits_same : (roads : List Road) (f g : ℕ → Pair) (x : List ℕ) → ((a : ℕ) → a < length roads → f a ≡ g a) → FitsBy ranked roads f x → FitsBy ranked roads g x
fits_same roads f g x e fit a l = grind (arith, ints)

-- a test by wrapped reduced worths is a test by the true ones, where these are near
pub exact_fits :
    (r : Bool) (roads : List Road) (f : ℕ → Pair) (x : List ℕ) → Decides r (FitsBy ranked roads (λ a. wrapped_pair (f a)) x)
    → ((a : ℕ) → a < length roads → NearPair max_exact (f a)) → Decides r (FitsBy ranked roads f x)
exact_fits r roads f x d near =
    let same : (a : ℕ) → a < length roads → wrapped_pair (f a) ≡ f a = λ a l. wrapped_near (f a) (near a l) in
    Decides-like r (fits_same roads (λ a. wrapped_pair (f a)) f x same) (fits_same roads f (λ a. wrapped_pair (f a)) x (λ a l. sym (same a l))) d
