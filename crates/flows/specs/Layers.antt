-- What the layers do to full lists.
use Rattle.std.specs.Prelude.{List, map, reverse}
use Rattle.network.specs.Exchanged.{exchanged}
use Rattle.network.specs.Floored.{floored}
use Rattle.network.specs.Net.{Net, Lawful}
use Rattle.plane.specs.Points.{Point, swap}
use Rattle.plane.specs.Lists.{Full}
use Rattle.flows.specs.Flows.{Points, HasNoFlow}

-- of the exchanged network: each point exchanged, from last to first
abbrev pub ExchangeStands : Type 0
ExchangeStands = (n : Net) → Lawful n → (l : List Point) → Full (Points n) l → Full (Points (exchanged n)) (reverse (map swap l))

abbrev pub ExchangeNoFlow : Type 0
ExchangeNoFlow = (n : Net) → Lawful n → (HasNoFlow n → HasNoFlow (exchanged n)) × (HasNoFlow (exchanged n) → HasNoFlow n)

-- of the network with the leasts taken away: the same
abbrev pub FloorStands : Type 0
FloorStands = (n : Net) → Lawful n → (l : List Point) → Full (Points n) l → Full (Points (floored n)) l

abbrev pub FloorNoFlow : Type 0
FloorNoFlow = (n : Net) → Lawful n → (HasNoFlow n → HasNoFlow (floored n)) × (HasNoFlow (floored n) → HasNoFlow n)
