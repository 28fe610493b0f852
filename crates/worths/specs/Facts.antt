-- What is proved of worths alone.
use Rattle.std.specs.Prelude.{ℕ, List, ℤ, pos}
use Rattle.network.specs.declared.road.Road.{Road}
use Rattle.worths.specs.Kinds.{Ordered, plain, ranked, Pair}
use Rattle.worths.specs.Fit.{Fits}

-- if ranked prices fit for (worth, anything), their first parts fit for the worth
abbrev pub FirstPartsFit : Type 0
FirstPartsFit = (roads : List Road) (worth tie : ℕ → ℤ) (price : ℕ → Pair) (x : List ℕ)
    → Fits ranked roads (λ a. (worth a, tie a)) price x → Fits plain roads worth (λ v. (price v).0) x

-- a plain number is a ranked pair with second part 0
abbrev pub PlainIsRanked : Type 0
PlainIsRanked = (roads : List Road) (worth price : ℕ → ℤ) (x : List ℕ)
    → (Fits plain roads worth price x → Fits ranked roads (λ a. (worth a, pos 0)) (λ v. (price v, pos 0)) x)
    × (Fits ranked roads (λ a. (worth a, pos 0)) (λ v. (price v, pos 0)) x → Fits plain roads worth price x)

pub record WorthsStand : Type 0 where
  pub plain_ordered : Ordered plain
  pub ranked_ordered : Ordered ranked
  pub first_parts : FirstPartsFit
  pub plain_ranked : PlainIsRanked
