-- Two claims that look right and are false.
use Rattle.std.specs.Prelude.{◌≡◌, List, ◌∷◌, ◌++◌, ◌≤ℤ◌}
use Rattle.network.specs.Net.{Net, Lawful}
use Rattle.plane.specs.Lists.{Full}
use Rattle.plane.specs.Points.{Point, first, weigh, turn_p, turn_q, Corner}
use Rattle.flows.specs.Flows.{Points}

-- of two neighbours in a full list no point is lighter than the former, at their turning weights with the two parts exchanged
abbrev pub TurnedRound : Type 0
TurnedRound = (n : Net) → Lawful n → (l : List Point) → Full (Points n) l → (u v : List Point) (a b : Point) → l ≡ u ++ (a ∷ b ∷ v)
    → (y : Point) → Points n y → weigh (turn_q a b) (turn_p a b) a ≤ℤ weigh (turn_q a b) (turn_p a b) y

-- every point of least first cost is a corner, whatever its second
abbrev pub WithoutTieBreak : Type 0
WithoutTieBreak = (n : Net) → Lawful n → (z : Point) → Points n z → ((y : Point) → Points n y → first z ≤ℤ first y) → Corner (Points n) z
