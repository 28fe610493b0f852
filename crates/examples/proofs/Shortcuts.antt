-- What refutes the two shortcuts: consignments of the table.
use Rattle.std.proofs.Common.{[], ◌∷◌, ℤ, pos, ◌≤ℤ◌, refl, arith}
use Rattle.std.proofs.lemmas.Int.{ints}
use Rattle.plane.specs.Points.{weigh}
use Rattle.examples.specs.Networks.{pair, worked, twins}
use Rattle.examples.specs.Shortcuts.{TurnedRound, WithoutTieBreak}
use Rattle.examples.specs.Worked.{consignments}
use Rattle.examples.proofs.Evidence.{consignments_stand}
use Rattle.examples.proofs.Passing.{row}

-- the first two corners of the worked network would say that at (4, 10) the first weighs no more than its last, which is 252 ≤ 148
pub turned_round_fails : TurnedRound → ⊥
turned_round_fails h =
    let list = row consignments consignments_stand 0 in
    let light = row consignments consignments_stand 12 in
    (h worked list.0 _ list.1.0 [] (pair 22 6 ∷ []) (pair 8 22) (pair 12 12) refl (pair 22 6) light.1.stands).le

-- of the twins' two points the dearer in second cost has the least first cost too
pub without_tie_break_fails : WithoutTieBreak → ⊥
without_tie_break_fails h =
    let list = row consignments consignments_stand 13 in
    let light = row consignments consignments_stand 14 in
    let dearer = list.1.2.0 in
    dearer.1 (h twins list.0 (pair 1 1) dearer.0 (λ y s. least y.0 y.1 (light.1.lightest y s)))
  where
    least : (c d : ℤ) → weigh (pos 1) (pos 0) (pair 1 0) ≤ℤ weigh (pos 1) (pos 0) (c, d) → pos 1 ≤ℤ c
    least c d l = omega (arith, ints)
