-- The theorems on full lists of networks.
use Rattle.std.specs.Prelude.{◌≡◌, List, [], ◌∷◌, ◌++◌}
use Rattle.network.specs.Limits.{max_reach}
use Rattle.network.specs.Net.{Net, Lawful}
use Rattle.plane.specs.Facts.{FactsOf}
use Rattle.plane.specs.Lists.{Full, Turn}
use Rattle.plane.specs.Points.{Point, Within}
use Rattle.flows.specs.Flows.{Points, HasNoFlow}

-- every point lies within the reach
abbrev pub ReachStands : Type 0
ReachStands = (n : Net) → Lawful n → Within max_reach (Points n)

-- what is proved of corners holds of the points of flows
abbrev pub CornersStand : Type 0
CornersStand = (n m : Net) → FactsOf (Points n) (Points m)

-- there is a full list, one only, and it is empty exactly where there is no flow
abbrev pub ListExists : Type 0
ListExists = (n : Net) → Lawful n → (l : List Point) × Full (Points n) l

abbrev pub ListUnique : Type 0
ListUnique = (n : Net) → (l m : List Point) → Full (Points n) l → Full (Points n) m → l ≡ m

abbrev pub EmptyIsNoFlow : Type 0
EmptyIsNoFlow = (n : Net) → Lawful n → (Full (Points n) [] → HasNoFlow n) × (HasNoFlow n → Full (Points n) [])

-- neighbours of the full list are both lightest at their turning weights
abbrev pub NeighboursTurn : Type 0
NeighboursTurn = (n : Net) → Lawful n → (l u v : List Point) (a b : Point) → Full (Points n) l → l ≡ u ++ (a ∷ b ∷ v) → Turn (Points n) a b
