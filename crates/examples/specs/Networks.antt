-- The networks of the worked consignments.
use Rattle.std.specs.Prelude.{ℕ, List, [], ◌∷◌, ℤ, pos, neg_ℤ, Some, None, Option, slice_index_or}
use Rattle.network.specs.Capped.{capped}
use Rattle.network.specs.Net.{Net, rows_net}
use Rattle.network.specs.declared.road.Road.{Road}

-- two numbers from zero up, as a point or as weights
abbrev pub pair : ℕ → ℕ → ℤ × ℤ
pair a b = (pos a, pos b)

-- tail and head, least and most, first cost and second
abbrev pub road : ℕ × ℕ → ℕ × ℕ → ℤ × ℤ → Road
road ends bounds costs = record { tail = ends.0; head = ends.1; least = bounds.0; most = bounds.1; first = costs.0; second = costs.1 }

-- a cap for each of the first arcs that has one
abbrev pub cap_row : List (Option ℕ) → ℕ → Option ℕ
cap_row row a = slice_index_or row a None

-- three chests from node 0 to node 2: straight by a cheap slow road or a dear fast one, or over node 1; on the dear one go `least` at the least
abbrev worked_with : ℕ → Net
worked_with least =
    rows_net (road (0, 2) (0, 2) (pair 2 9) ∷ road (0, 1) (0, 4) (pair 1 4) ∷ road (1, 2) (0, 4) (pair 3 0) ∷ road (0, 2) (least, 2) (pair 9 1) ∷ []) (pos 3 ∷ pos 0 ∷ neg_ℤ (pos 3) ∷ [])

-- the network of samples/worked.txt; and with one chest bound to go by the dear road
abbrev pub worked : Net
worked = worked_with 0

abbrev pub pledged : Net
pledged = worked_with 1

-- with room for one chest over node 1; and with no room there nor on the cheap road
abbrev pub narrow : Net
narrow = capped (cap_row (None ∷ Some 1 ∷ [])) worked

abbrev pub shut : Net
shut = capped (cap_row (Some 0 ∷ Some 0 ∷ [])) worked

-- chests that go round: each turn saves freight and adds ageing
abbrev pub round : Net
round = rows_net (road (0, 1) (0, 3) (neg_ℤ (pos 1), pos 1) ∷ road (1, 0) (0, 3) (pair 0 0) ∷ []) (pos 0 ∷ pos 0 ∷ [])

-- one node and no arcs
abbrev pub island : ℤ → Net
island stock = rows_net [] (stock ∷ [])

-- one chest and two roads that differ in the second cost alone
abbrev pub twins : Net
twins = rows_net (road (0, 1) (0, 1) (pair 1 0) ∷ road (0, 1) (0, 1) (pair 1 1) ∷ []) (pos 1 ∷ neg_ℤ (pos 1) ∷ [])
