-- The network with lower mosts on some arcs.
use Rattle.std.specs.Prelude.{ℕ, suc, Bool, cond, ◌&&◌, List, [], ◌∷◌, Some, None, Option, nat_le}
use Rattle.network.specs.Net.{Net}
use Rattle.network.specs.Roads.{with_most}
use Rattle.network.specs.declared.road.Road.{Road}

-- the road may carry this amount
abbrev pub within : Road → ℕ → Bool
within r u = nat_le r.least u && nat_le u r.most

-- a cap is the most of an arc: it caps nothing where it is under the arc's least or over its most
abbrev pub bounded : Option ℕ → Road → Road
bounded None r = r
bounded (Some u) r = cond (within r u) (with_most r u) r

-- the roads from arc i on, under a cap for each arc that has one
abbrev pub bounded_from : (ℕ → Option ℕ) → ℕ → List Road → List Road
bounded_from cap_of i [] = []
bounded_from cap_of i (r ∷ rs) = bounded (cap_of i) r ∷ bounded_from cap_of (suc i) rs

abbrev pub capped : (ℕ → Option ℕ) → Net → Net
capped cap_of n = record { stocks = n.stocks; roads = bounded_from cap_of 0 n.roads; fixed = n.fixed }
