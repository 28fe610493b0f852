-- An arc's road and a node's stock, by number.
use Rattle.std.specs.Prelude.{ℕ, List, ℤ, pos, slice_index_or}
use Rattle.network.specs.declared.road.Road.{Road}

-- what a list of roads is read as past its end
abbrev pub nowhere : Road
nowhere = record { tail = 0; head = 0; least = 0; most = 0; first = pos 0; second = pos 0 }

abbrev pub road_at : List Road → ℕ → Road
road_at roads a = slice_index_or roads a nowhere

abbrev pub stock_at : List ℤ → ℕ → ℤ
stock_at stocks v = slice_index_or stocks v (pos 0)
