-- What an engine promises.
use Rattle.std.specs.Prelude.{List, ℕ, ◌<◌, length}
use Rattle.network.specs.Net.{Net, node_count}
use Rattle.network.specs.declared.road.Road.{Road}
use Rattle.worths.specs.Kinds.{Pair, ranked}
use Rattle.worths.specs.Fit.{Fits}
use Rattle.worths.specs.Values.{NearPair, max_worth, max_price}
use Rattle.flows.specs.Flows.{Flow}

-- a worth for each arc, each part near enough to zero
pub record Worthy (roads : List Road) (worth : ℕ → Pair) : Type 0 where
  pub near : (a : ℕ) → a < length roads → NearPair max_worth (worth a)

-- a flow, and prices near enough to zero that fit it
pub record Solved (n : Net) (worth : ℕ → Pair) (x : List ℕ) (price : ℕ → Pair) : Type 0 where
  pub flows : Flow n x
  pub fits : Fits ranked n.roads worth price x
  pub near : (v : ℕ) → v < node_count n → NearPair max_price (price v)
