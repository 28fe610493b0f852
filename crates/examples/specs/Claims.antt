-- What can be claimed of a consignment, and when the claim holds.
use Rattle.std.specs.Prelude.{◌≡◌, List, [], ◌∷◌, ℤ}
use Rattle.std.specs.List.{AllByRecursion}
use Rattle.network.specs.Net.{Net, Lawful}
use Rattle.plane.specs.Lists.{Full}
use Rattle.plane.specs.Points.{Point, turn_p, turn_q, Corner, Lightest}
use Rattle.flows.specs.Flows.{Points, HasNoFlow}

-- two weights, of the first cost and of the second
abbrev pub Weights : Type 0
Weights = ℤ × ℤ

-- the turning weights from a to the first point of a list, and from each to the next
abbrev pub turns_from : Point → List Point → List Weights
turns_from a [] = []
turns_from a (b ∷ l) = (turn_p a b, turn_q a b) ∷ turns_from b l

-- those of all neighbours in a list
abbrev pub turns : List Point → List Weights
turns [] = []
turns (a ∷ l) = turns_from a l

-- the corners with their turning weights and some points that are none; or that there is no flow; or the lightest point at two weights
pub data Claim : Type 0 where
  cornered : List Point → List Weights → List Point → Claim
  unserved : Claim
  lightest_at : ℤ → ℤ → Point → Claim

-- some flow has the point, and it is no corner
abbrev pub PassedOver : Net → Point → Type 0
PassedOver n z = Points n z × (Corner (Points n) z → ⊥)

abbrev pub Holds : Net → Claim → Type 0
Holds n (cornered l weights others) = Full (Points n) l × (turns l ≡ weights) × AllByRecursion (PassedOver n) others
Holds n unserved = HasNoFlow n
Holds n (lightest_at p q z) = Lightest (Points n) p q z

-- a consignment, and what is claimed of it
pub record Example : Type 0 where
  pub net : Net
  pub claim : Claim

-- its network is lawful, and the claim holds of it
abbrev pub Stands : Example → Type 0
Stands c = Lawful c.net × Holds c.net c.claim
