-- Steps of the residual graph: over an arc, from either end of it to the other.
use Rattle.std.specs.Prelude.{◌≡◌, ℕ, ◌+◌, ◌-◌, ◌<◌, ◌≤◌, Bool, true, false, cond, List, length, ℤ, pos, ◌+ℤ◌, ◌-ℤ◌, neg_ℤ, ◌==◌, slice_set}
use Rattle.network.specs.Arcs.{road_at, stock_at}
use Rattle.network.specs.Net.{Net, node_count}
use Rattle.network.specs.Roads.{end_node, other_end}
use Rattle.network.specs.declared.road.End.{End}
use Rattle.network.specs.declared.road.End.TheVariants.{Tail, Head}
use Rattle.network.specs.declared.road.Road.{Road}
use Rattle.flows.specs.Flows.{on, outflow, inflow}
use Rattle.residual.specs.declared.step.Step.{Step}

-- a step from the tail goes along the arc, one from the head goes back
abbrev pub along : End → Bool
along Tail = true
along Head = false

abbrev pub start : List Road → Step → ℕ
start roads s = end_node s.from (road_at roads s.arc)

abbrev pub finish : List Road → Step → ℕ
finish roads s = end_node (other_end s.from) (road_at roads s.arc)

-- the same arc the other way
abbrev pub flip : Step → Step
flip s = record { arc = s.arc; from = other_end s.from }

-- how many more chests can go this way
abbrev pub room : List Road → List ℕ → Step → ℕ
room roads x s = cond (along s.from) ((road_at roads s.arc).most - on x s.arc) (on x s.arc - (road_at roads s.arc).least)

-- d chests more go this way
abbrev pub pushed : List ℕ → Step → ℕ → List ℕ
pushed x s d = slice_set x s.arc (cond (along s.from) (on x s.arc + d) (on x s.arc - d))

-- what a chest this way is worth, in one part of the worths, and so reduced by prices
abbrev pub step_worth : (ℕ → ℤ) → Step → ℤ
step_worth w s = cond (along s.from) (w s.arc) (neg_ℤ (w s.arc))

abbrev pub slack : List Road → (ℕ → ℤ) → (ℕ → ℤ) → Step → ℤ
slack roads w price s = (step_worth w s +ℤ price (start roads s)) -ℤ price (finish roads s)

-- each arc carries from its least to its most
pub record Bounded (roads : List Road) (x : List ℕ) : Type 0 where
  pub long : length x ≡ length roads
  pub low : (a : ℕ) → a < length roads → (road_at roads a).least ≤ on x a
  pub high : (a : ℕ) → a < length roads → on x a ≤ (road_at roads a).most

-- what a node's stock has over what the row takes from it
abbrev pub excess : Net → List ℕ → ℕ → ℤ
excess n x v = stock_at n.stocks v -ℤ (pos (outflow n.roads (on x) v) -ℤ pos (inflow n.roads (on x) v))

-- d at v if it is the node u
abbrev pub at : ℕ → ℕ → ℕ → ℤ
at u v d = pos (cond (u == v) d 0)

-- y is x with d chests more from one node to another
pub record Moved (n : Net) (x y : List ℕ) (from to d : ℕ) : Type 0 where
  pub bounded : Bounded n.roads y
  pub moved : (v : ℕ) → v < node_count n → excess n y v ≡ (excess n x v -ℤ at from v d) +ℤ at to v d
