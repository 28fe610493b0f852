-- Reduced worths, and prices that fit a flow.
use Rattle.std.specs.Prelude.{◌≡◌, ℕ, ◌<◌, List, length, slice_index}
use Rattle.network.specs.Arcs.{road_at}
use Rattle.network.specs.declared.road.Road.{Road}
use Rattle.worths.specs.Kinds.{Kind, Above, Below}

-- the worth of an arc plus its tail's price less its head's, for a worth of each arc and a price of each node
abbrev pub reduced_by : (K : Kind) → Road → K.Worth → (ℕ → K.Worth) → K.Worth
reduced_by K r worth price = K.plus (K.plus worth (price r.tail)) (K.minus (price r.head))

abbrev pub reduced : (K : Kind) → List Road → (ℕ → K.Worth) → (ℕ → K.Worth) → ℕ → K.Worth
reduced K roads worth price a = reduced_by K (road_at roads a) (worth a) price

-- an arc of reduced worth above zero carries its least, one below zero its most
pub record FitsArc (K : Kind) (r : Road) (reduced_worth : K.Worth) (chests : ℕ) : Type 0 where
  pub above : Above K reduced_worth → chests ≡ r.least
  pub below : Below K reduced_worth → chests ≡ r.most

-- so for a reduced worth of each arc
abbrev pub FitsBy : (K : Kind) → List Road → (ℕ → K.Worth) → List ℕ → Type 0
FitsBy K roads reduced_worth x = (a : ℕ) → a < length roads → FitsArc K (road_at roads a) (reduced_worth a) (slice_index x a)

-- the prices fit the flow
abbrev pub Fits : (K : Kind) → List Road → (ℕ → K.Worth) → (ℕ → K.Worth) → List ℕ → Type 0
Fits K roads worth price x = FitsBy K roads (reduced K roads worth price) x
