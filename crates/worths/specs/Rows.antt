-- Reduced worths over rows as the code holds them.
use Rattle.std.specs.Prelude.{ℕ, List}
use Rattle.network.specs.declared.road.Road.{Road}
use Rattle.worths.specs.Kinds.{Pair, ranked}
use Rattle.worths.specs.Fit.{reduced}
use Rattle.worths.specs.Values.{row_of}

abbrev pub reduced_of : {W : Type 0} → (W → Pair) → List Road → List W → List W → ℕ → Pair
reduced_of value roads worths prices = reduced ranked roads (row_of value worths) (row_of value prices)
