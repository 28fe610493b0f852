-- The first fault of a row, one record after another.
use Rattle.std.proofs.Common.{◌≡◌, ℕ, zero, suc, ◌+◌, ◌<◌, ◌≤◌, Bool, true, false, cond, not, List, [], ◌∷◌, length, get_or, ℤ, Some, None, Option, MatchOption, IfSome, Bor, sym, refl, ap, ◌∙◌, subst, zero-add, add-one, arith}
use Rattle.std.specs.List.{position, position_from}
use denote.Param.Members.{Mut}
use Rattle.std.specs.Bool.{IsTrue}
use Rattle.std.specs.Fn.{Called}
use Rattle.std.specs.Iterator.Runs.{Run, CallKeepsClosure, AllItemsGive, IsFirstToGive, ProjectsRun, ItemsMapTo}
use Rattle.std.specs.Option.{option_map, IsSomeAnd}
use Rattle.std.proofs.lemmas.Option.{none-some, same_Some}
use Rattle.std.proofs.lemmas.Iterator.Adapters.{position_from-zero}
use Rattle.network.specs.Limits.{max_stock}
use Rattle.network.specs.Tested.{is_near, is_ranged, is_passable, stock_fault, road_fault, or_else}
use Rattle.network.specs.declared.refusal.Refusal.{Refusal}
use Rattle.network.specs.declared.refusal.Refusal.TheVariants.{Number, Impassable}
use Rattle.network.specs.declared.road.Road.{Road}

abbrev pub far : ℤ → Bool
far b = not (is_near max_stock b)

at_first : (i : ℕ) (bs : List ℤ) → option_map Number (position_from far i bs) ≡ stock_fault i bs
at_first i [] = refl
at_first i (b ∷ bs) =
    elim (is_near max_stock b) as (λ near. option_map Number (cond (not near) (Some i) (position_from far (i + 1) bs)) ≡ cond near (stock_fault (suc i) bs) (Some (Number i))) [
      | true ↦ at_first (i + 1) bs ∙ ap (λ k. stock_fault k bs) (add-one i)
      | false ↦ refl
    ]

-- the first stock that is too far from zero is the fault
pub stock_first : (bs : List ℤ) → option_map Number (position far bs) ≡ stock_fault 0 bs
stock_first bs = ap (option_map Number) (position_from-zero far bs) ∙ at_first 0 bs

-- the fault of one road, and of one road before others
abbrev pub fault : ℕ → ℕ → Road → Option Refusal
fault n i r = road_fault n i (r ∷ [])

fault_before : (n i : ℕ) (r : Road) (rs : List Road) → road_fault n i (r ∷ rs) ≡ or_else (fault n i r) (road_fault n (suc i) rs)
fault_before n i r rs = both (is_ranged n r) (is_passable r)
  where
    both : (a b : Bool) → cond a (cond b (road_fault n (suc i) rs) (Some (Impassable i))) (Some (Number i)) ≡ or_else (cond a (cond b None (Some (Impassable i))) (Some (Number i))) (road_fault n (suc i) rs)
    both true true = refl
    both true false = refl
    both false b = refl

-- no road is at fault from record i on
abbrev pub Faultless : ℕ → ℕ → List Road → ℕ → Type 0
Faultless n i rs below = (k j : ℕ) (d : Road) → k < below → j ≡ i + k → None ≡ fault n j (get_or rs k d)

road_none : (n i : ℕ) (rs : List Road) → Faultless n i rs (length rs) → None ≡ road_fault n i rs
road_none n i [] h = refl
road_none n i (r ∷ rs) h =
    road_none n (suc i) rs (λ k j d l e. h (suc k) j d (omega arith) (omega arith))
    ∙ ap (λ o. or_else o (road_fault n (suc i) rs)) (h 0 i r (omega arith) (omega arith))
    ∙ sym (fault_before n i r rs)

road_some : (n i : ℕ) (rs : List Road) (k j : ℕ) (e : Refusal) → k < length rs → j ≡ i + k → ((d : Road) → Some e ≡ fault n j (get_or rs k d)) → Faultless n i rs k → Some e ≡ road_fault n i rs
road_some n i [] k j e l at h before = absurd (omega arith)
road_some n i (r ∷ rs) zero j e l at h before =
    let here : j ≡ i = omega arith in
    ap (λ o. or_else o (road_fault n (suc i) rs)) (h r ∙ ap (λ m. fault n m r) here) ∙ sym (fault_before n i r rs)
road_some n i (r ∷ rs) (suc k) j e l at h before =
    road_some n (suc i) rs k j e (omega arith) (omega arith) h (λ k' j' d l' e'. before (suc k') j' d (omega arith) (omega arith))
    ∙ ap (λ o. or_else o (road_fault n (suc i) rs)) (before 0 i r (omega arith) (omega arith))
    ∙ sym (fault_before n i r rs)

-- what a call told of the road that stands at a place
told : (n k : ℕ) (r : Road) (o : Option (ℕ × Bor Road)) (b : Option Refusal) (C : ℕ × Bor Road → Type 0) → ((x : ℕ × Bor Road) → C x → b ≡ fault n x.0 x.1.now)
    → IfSome o (λ x. x.0 ≡ k) → option_map (λ y. y.now) (option_map (λ x. x.1) o) ≡ Some r → IfSome o C → b ≡ fault n k r
told n k r None b C says number road called = absurd (none-some r road)
told n k r (Some x) b C says number road called = says x called ∙ ap (λ m. fault n m x.1.now) number ∙ ap (fault n k) (same_Some _ _ road)

if_some : (o : Option (ℕ × Bor Road)) (C : ℕ × Bor Road → Type 0) → IsSomeAnd o C → IfSome o C
if_some None C h = tt
if_some (Some x) C h = h

-- `find_map` over the roads with their numbers, where the closure answers with the fault of each
module _ {S T F : Type 0} {steps : S → Option (ℕ × Bor Road) → S → Type 0} {source : T → Option (Bor Road) → T → Type 0} {g : Mut F ((ℕ × Bor Road) × Unit {0}) (Option Refusal)} {f : F}
    (n : ℕ) (rs : List Road) (p : Run steps) (q : Run source)
    (says : (x : ℕ × Bor Road) (b : Option Refusal) (h : F) → Called g f (x, tt) b h → (h ≡ f) × (b ≡ fault n x.0 x.1.now))
    (number : (k : ℕ) → IfSome (p.at k) (λ x. x.0 ≡ k))
    (beside : ProjectsRun p q (λ x. x.1))
    (whole : q.whole ≡ p.whole)
    (reads : ItemsMapTo q (λ y. y.now) rs) where
  keeps : CallKeepsClosure g f
  keeps a b h c = (says a.0 b h c).0

  -- the answer at a place
  answer : (k j : ℕ) (d : Road) (b : Option Refusal) → k < p.len → j ≡ 0 + k → IfSome (p.at k) (λ x. Called g f (x, tt) b f) → b ≡ fault n j (get_or rs k d)
  answer k j d b l e h =
      told n j _ (p.at k) b (λ x. Called g f (x, tt) b f) (λ x c. (says x b f c).1) (subst (λ m. IfSome (p.at k) (λ x. x.0 ≡ m)) (sym (e ∙ zero-add k)) (number k))
      (ap (option_map (λ y. y.now)) (sym (beside.2 k)) ∙ reads.2 k d (omega (arith, beside.0))) h

  pub find_mapped : (o : Option Refusal) → MatchOption o (IsTrue p.whole × AllItemsGive p g f None) (λ e. (i : ℕ) × (i < p.len) × (p.len ≡ i + 1) × IsFirstToGive p g f (Some e) None i) → o ≡ road_fault n 0 rs
  find_mapped None h =
      let long : p.len ≡ length rs = sym beside.0 ∙ reads.1 (whole ∙ h.0) in
      road_none n 0 rs (λ k j d l e. answer k j d None (omega arith) e (h.1 keeps k))
  find_mapped (Some y) h =
      let inside : h.0 < p.len = h.1 in
      let within : p.len ≤ length rs = omega (arith, reads.0, beside.0) in
      road_some n 0 rs h.0 h.0 y (omega arith) (omega arith) (λ d. answer h.0 h.0 d (Some y) inside (omega arith) (if_some (p.at h.0) (λ x. Called g f (x, tt) (Some y) f) (h.3 keeps).0))
      (λ k j d l e. answer k j d None (omega arith) e (if_some (p.at k) (λ x. Called g f (x, tt) None f) ((h.3 keeps).1 k l)))
