-- The table of worked consignments.
use Rattle.std.specs.Prelude.{List, [], ◌∷◌, pos, neg_ℤ}
use Rattle.std.specs.List.{AllByRecursion}
use Rattle.network.specs.Exchanged.{exchanged}
use Rattle.network.specs.Floored.{floored}
use Rattle.network.specs.Net.{Net}
use Rattle.examples.specs.Claims.{Claim, cornered, unserved, lightest_at, Example, Stands}
use Rattle.examples.specs.Networks.{pair, worked, pledged, narrow, shut, round, island, twins}

abbrev pub of : Net → Claim → Example
of n k = record { net = n; claim = k }

abbrev pub consignments : List Example
consignments =
    of worked (cornered (pair 8 22 ∷ pair 12 12 ∷ pair 22 6 ∷ []) (pair 10 4 ∷ pair 6 10 ∷ []) [])
    ∷ of narrow (cornered (pair 8 22 ∷ pair 22 6 ∷ []) (pair 16 14 ∷ []) (pair 15 14 ∷ []))
    ∷ of shut unserved
    ∷ of (exchanged worked) (cornered (pair 6 22 ∷ pair 12 12 ∷ pair 22 8 ∷ []) (pair 10 6 ∷ pair 4 10 ∷ []) [])
    ∷ of pledged (cornered (pair 13 19 ∷ pair 17 9 ∷ pair 22 6 ∷ []) (pair 10 4 ∷ pair 3 5 ∷ []) [])
    ∷ of (floored pledged) (cornered (pair 13 19 ∷ pair 17 9 ∷ pair 22 6 ∷ []) (pair 10 4 ∷ pair 3 5 ∷ []) [])
    ∷ of round (cornered ((neg_ℤ (pos 3), pos 3) ∷ pair 0 0 ∷ []) (pair 3 3 ∷ []) [])
    ∷ of (island (pos 0)) (cornered (pair 0 0 ∷ []) [] [])
    ∷ of (island (pos 1)) unserved
    ∷ of (island (neg_ℤ (pos 1))) unserved
    ∷ of worked (lightest_at (pos 5) (pos 2) (pair 8 22))
    ∷ of worked (lightest_at (pos 0) (pos 1) (pair 22 6))
    ∷ of worked (lightest_at (pos 4) (pos 10) (pair 22 6))
    ∷ of twins (cornered (pair 1 0 ∷ []) [] (pair 1 1 ∷ []))
    ∷ of twins (lightest_at (pos 1) (pos 0) (pair 1 0))
    ∷ []

abbrev pub ConsignmentsStand : Type 0
ConsignmentsStand = AllByRecursion Stands consignments
