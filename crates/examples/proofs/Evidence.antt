-- The evidence for each consignment of the table, and the one computation that tests it.
use Rattle.std.proofs.Common.{ℕ, true, List, [], ◌∷◌, ℤ, pos, neg_ℤ}
use Rattle.std.specs.List.{AllByRecursion}
use Rattle.worths.specs.Kinds.{Pair}
use Rattle.plane.specs.Points.{Point}
use Rattle.flows.specs.Certificate.{Place, Step, Certificate}
use Rattle.examples.specs.Networks.{pair}
use Rattle.examples.specs.Worked.{consignments, ConsignmentsStand}
use Rattle.examples.proofs.Passing.{Evidence, all_stand}

abbrev place : Point → List ℕ → Place
place z x = record { point = z; flow = x }

abbrev step : Point → List ℕ → List ℤ → Step
step z x prices = record { place = place z x; prices = prices }

-- the parts of a certificate, and flows of the other points
abbrev certified : Place → List Pair → List Step → List Pair → List (List ℕ) → Certificate × List (List ℕ)
certified start opening further closing others = (record { start = start; opening = opening; further = further; closing = closing }, others)

-- the worked network has four arcs and three nodes
abbrev chests : ℕ → ℕ → ℕ → ℕ → List ℕ
chests a b c d = a ∷ b ∷ c ∷ d ∷ []

abbrev prices : ℕ → ℕ → ℕ → List ℤ
prices a b c = pos a ∷ pos b ∷ pos c ∷ []

-- prices of its nodes for (first, second) and for (second, first)
abbrev cheap : List Pair
cheap = pair 0 0 ∷ pair 1 4 ∷ pair 4 4 ∷ []

abbrev quick : List Pair
quick = pair 0 0 ∷ pair 4 1 ∷ pair 4 4 ∷ []

-- and where the way over node 1 is full
abbrev narrow_cheap : List Pair
narrow_cheap = pair 0 0 ∷ pair 6 1 ∷ pair 9 1 ∷ []

abbrev narrow_quick : List Pair
narrow_quick = pair 0 0 ∷ (pos 9, neg_ℤ (pos 1)) ∷ pair 9 2 ∷ []

-- for one consignment, then for the rest
infixr 5 ◌⨾◌
abbrev ◌⨾◌ : {A B : Type 0} → A → B → A × B
a ⨾ b = (a, b)

abbrev evidence : AllByRecursion (λ c. Evidence c.claim) consignments
evidence =
    certified (place (pair 8 22) (chests 2 1 1 0)) cheap (step (pair 12 12) (chests 0 3 3 0) (prices 0 26 56) ∷ step (pair 22 6) (chests 0 1 1 2) (prices 0 46 64) ∷ []) quick []
    ⨾ certified (place (pair 8 22) (chests 2 1 1 0)) narrow_cheap (step (pair 22 6) (chests 0 1 1 2) (prices 0 110 158) ∷ []) narrow_quick (chests 1 1 1 1 ∷ [])
    ⨾ (true ∷ [])
    ⨾ certified (place (pair 6 22) (chests 0 1 1 2)) quick (step (pair 12 12) (chests 0 3 3 0) (prices 0 46 64) ∷ step (pair 22 8) (chests 2 1 1 0) (prices 0 26 56) ∷ []) cheap []
    ⨾ certified (place (pair 13 19) (chests 2 0 0 1)) cheap (step (pair 17 9) (chests 0 2 2 1) (prices 0 26 56) ∷ step (pair 22 6) (chests 0 1 1 2) (prices 0 23 32) ∷ []) quick []
    ⨾ certified (place (pair 13 19) (chests 2 0 0 0)) cheap (step (pair 17 9) (chests 0 2 2 0) (prices 0 26 56) ∷ step (pair 22 6) (chests 0 1 1 1) (prices 0 23 32) ∷ []) quick []
    ⨾ certified (place (neg_ℤ (pos 3), pos 3) (3 ∷ 3 ∷ [])) [] (step (pair 0 0) (0 ∷ 0 ∷ []) [] ∷ []) (pair 0 0 ∷ (pos 1, neg_ℤ (pos 1)) ∷ []) []
    ⨾ certified (place (pair 0 0) []) [] [] [] []
    ⨾ (true ∷ [])
    ⨾ (true ∷ [])
    ⨾ (chests 2 1 1 0, pair 0 0 ∷ pair 13 1 ∷ pair 28 4 ∷ [])
    ⨾ (chests 0 1 1 2, quick)
    ⨾ (chests 0 1 1 2, pair 0 0 ∷ pair 44 1 ∷ pair 56 4 ∷ [])
    ⨾ certified (place (pair 1 0) (1 ∷ 0 ∷ [])) (pair 0 0 ∷ pair 1 0 ∷ []) [] (pair 0 0 ∷ pair 0 1 ∷ []) ((0 ∷ 1 ∷ []) ∷ [])
    ⨾ (1 ∷ 0 ∷ [], pair 0 0 ∷ pair 1 0 ∷ [])
    ⨾ tt

pub consignments_stand : ConsignmentsStand
consignments_stand = all_stand consignments evidence tt
