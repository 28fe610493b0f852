-- First parts of ranked worths, and plain worths as ranked ones.
use Rattle.std.proofs.Common.{ℕ, ℤ, pos, arith}
use Rattle.network.specs.declared.road.Road.{Road}
use Rattle.std.proofs.lemmas.Int.{ints}
use Rattle.worths.specs.Kinds.{Pair, plain, ranked}
use Rattle.worths.specs.Fit.{FitsArc, reduced}
use Rattle.worths.specs.Facts.{FirstPartsFit, PlainIsRanked}

pub first_part_fits : (r : Road) (u : Pair) (chests : ℕ) → FitsArc ranked r u chests → FitsArc plain r u.0 chests
first_part_fits r u chests f = grind (arith, ints)

pub plain_part_fits : (r : Road) (a : ℤ) (chests : ℕ) → FitsArc plain r a chests → FitsArc ranked r (a, pos 0) chests
plain_part_fits r a chests f = grind (arith, ints)

pub first_parts : FirstPartsFit
first_parts roads worth tie price x fit a l = first_part_fits _ (reduced ranked roads (λ k. (worth k, tie k)) price a) _ (fit a l)

pub plain_ranked : PlainIsRanked
plain_ranked roads worth price x =
    (λ fit a l. plain_part_fits _ (reduced plain roads worth price a) _ (fit a l), first_parts roads worth (λ _. pos 0) (λ v. (price v, pos 0)) x)
