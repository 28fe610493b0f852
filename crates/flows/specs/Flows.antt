-- Flows of a network, and their points.
use Rattle.std.specs.Prelude.{◌≡◌, ℕ, ◌<◌, ◌≤◌, cond, List, length, ℤ, pos, ◌+ℤ◌, ◌-ℤ◌, ◌*ℤ◌, ◌==◌, slice_index}
use Rattle.numbers.specs.Totals.{total}
use Rattle.network.specs.Arcs.{road_at, stock_at}
use Rattle.network.specs.Net.{Net, node_count, arc_count}
use Rattle.network.specs.declared.road.Road.{Road}
use Rattle.worths.specs.Kinds.{plain, sum}
use Rattle.plane.specs.Points.{Point}

-- a list of numbers as a number of chests for each arc
abbrev pub on : List ℕ → ℕ → ℕ
on x a = slice_index x a

-- the chests that leave a node, and those that arrive there, where arc a carries x a
abbrev pub outflow : List Road → (ℕ → ℕ) → ℕ → ℕ
outflow roads x v = total (length roads) (λ a. cond ((road_at roads a).tail == v) (x a) 0)

abbrev pub inflow : List Road → (ℕ → ℕ) → ℕ → ℕ
inflow roads x v = total (length roads) (λ a. cond ((road_at roads a).head == v) (x a) 0)

-- a flow: each arc carries from its least to its most, and at each node chests leaving less chests arriving are the stock
pub record Flow (n : Net) (x : List ℕ) : Type 0 where
  pub long : length x ≡ arc_count n
  pub low : (a : ℕ) → a < arc_count n → (road_at n.roads a).least ≤ on x a
  pub high : (a : ℕ) → a < arc_count n → on x a ≤ (road_at n.roads a).most
  pub kept : (v : ℕ) → v < node_count n → pos (outflow n.roads (on x) v) -ℤ pos (inflow n.roads (on x) v) ≡ stock_at n.stocks v

abbrev pub HasNoFlow : Net → Type 0
HasNoFlow n = (x : List ℕ) → Flow n x → ⊥

abbrev pub first_cost : Road → ℤ
first_cost r = r.first

abbrev pub second_cost : Road → ℤ
second_cost r = r.second

-- the sum over the arcs of chests × cost
abbrev pub cost_of : (Road → ℤ) → List Road → (ℕ → ℕ) → ℤ
cost_of cost roads x = sum plain (length roads) (λ a. pos (x a) *ℤ cost (road_at roads a))

-- both costs of a flow
abbrev pub point : Net → List ℕ → Point
point n x = (n.fixed.0 +ℤ cost_of first_cost n.roads (on x), n.fixed.1 +ℤ cost_of second_cost n.roads (on x))

-- the points of flows
pub record Points (n : Net) (z : Point) : Type 0 where
  pub flow : List ℕ
  pub flows : Flow n flow
  pub here : point n flow ≡ z
