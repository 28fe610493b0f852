-- What the numbers of a road and of a stock may be.
use Rattle.std.specs.Prelude.{◌≡◌, ℕ, ◌<◌, ◌≤◌, ℤ, pos, neg_ℤ, ◌≤ℤ◌}
use Rattle.network.specs.Limits.{max_most, max_cost}
use Rattle.network.specs.declared.road.End.{End}
use Rattle.network.specs.declared.road.End.TheVariants.{Tail, Head}
use Rattle.network.specs.declared.road.Road.{Road}

-- at most so far from zero
abbrev pub Near : ℕ → ℤ → Type 0
Near far z = (neg_ℤ (pos far) ≤ℤ z) × (z ≤ℤ pos far)

-- the node at an end of a road
abbrev pub end_node : End → Road → ℕ
end_node Tail r = r.tail
end_node Head r = r.head

abbrev pub other_end : End → End
other_end Tail = Head
other_end Head = Tail

-- the road joins nodes of the network, and each of its numbers is within its limit
pub record Ranged (nodes : ℕ) (r : Road) : Type 0 where
  pub tail : r.tail < nodes
  pub head : r.head < nodes
  pub least : r.least ≤ max_most
  pub most : r.most ≤ max_most
  pub first : Near max_cost r.first
  pub second : Near max_cost r.second

-- the road goes somewhere, and some number of chests can take it
pub record Passable (r : Road) : Type 0 where
  pub apart : r.tail ≡ r.head → ⊥
  pub room : r.least ≤ r.most

-- a road with some fields changed, one setter for each change
abbrev pub with_most : Road → ℕ → Road
with_most r u = record { tail = r.tail; head = r.head; least = r.least; most = u; first = r.first; second = r.second }

abbrev pub with_bounds : Road → ℕ → ℕ → Road
with_bounds r l u = record { tail = r.tail; head = r.head; least = l; most = u; first = r.first; second = r.second }

abbrev pub with_costs : Road → ℤ → ℤ → Road
with_costs r c d = record { tail = r.tail; head = r.head; least = r.least; most = r.most; first = c; second = d }
