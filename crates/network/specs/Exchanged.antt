-- The network with both costs of each arc and both fixed costs exchanged.
use Rattle.std.specs.Prelude.{map}
use Rattle.network.specs.Net.{Net}
use Rattle.network.specs.Roads.{with_costs}
use Rattle.network.specs.declared.road.Road.{Road}

abbrev pub swapped : Road → Road
swapped r = with_costs r r.second r.first

abbrev pub exchanged : Net → Net
exchanged n = record { stocks = n.stocks; roads = map swapped n.roads; fixed = (n.fixed.1, n.fixed.0) }
