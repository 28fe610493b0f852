-- What stands between two exchanges of the network simplex, and the number that each exchange lowers.
use Rattle.std.specs.Prelude.{◌≡◌, ℕ, suc, ◌+◌, ◌*◌, ◌≤◌, List, [], ℤ, Some, Option}
use Rattle.network.specs.Net.{rows_net}
use Rattle.network.specs.declared.road.Road.{Road}
use Rattle.worths.specs.Heights.{height}
use Rattle.worths.specs.Kinds.{Pair, ranked, minus_pair}
use Rattle.worths.specs.Values.{max_price}
use Rattle.flows.specs.Cheaper.{cheaper}
use Rattle.residual.specs.Steps.{room, slack, Bounded}
use Rattle.residual.specs.declared.step.Step.{Step}
use Rattle.forest.specs.Forest.{Linked, Tight, Ground}

-- one part of a worth for each arc, or of a price for each node
abbrev pub firsts : (ℕ → Pair) → ℕ → ℤ
firsts f k = (f k).0

abbrev pub seconds : (ℕ → Pair) → ℕ → ℤ
seconds f k = (f k).1

-- the slack of a step, part by part
abbrev pub slack_pair : List Road → (ℕ → Pair) → (ℕ → Pair) → Step → Pair
slack_pair roads worth price s = (slack roads (firsts worth) (firsts price) s, slack roads (seconds worth) (seconds price) s)

-- prices are those of a forest: links have slack zero, roots the price zero, in both parts
pub record Priced (roads : List Road) (worth price : ℕ → Pair) (links : ℕ → Option Step) : Type 0 where
  pub linked : Linked roads links
  pub tight_first : Tight roads (firsts worth) (firsts price) links
  pub tight_second : Tight roads (seconds worth) (seconds price) links
  pub ground_first : Ground (firsts price) links
  pub ground_second : Ground (seconds price) links

-- and each link has room towards its root: the forest is strongly feasible
pub record Basis (roads : List Road) (worth : ℕ → Pair) (x : List ℕ) (price : ℕ → Pair) (links : ℕ → Option Step) : Type 0 where
  pub bounded : Bounded roads x
  pub priced : Priced roads worth price links
  pub open_up : (v : ℕ) (s : Step) → links v ≡ Some s → 1 ≤ room roads x s

-- the flows that are worth less; and with the flow the same, how far the prices can still rise
abbrev pub max_height : ℕ → ℕ
max_height nodes = (nodes * (max_price + max_price)) * suc (nodes * (max_price + max_price)) + nodes * (max_price + max_price)

unfoldable pub left : List Road → ℕ → (ℕ → Pair) → List ℕ → (ℕ → Pair) → ℕ
left roads nodes worth x price = cheaper ranked (rows_net roads []) worth x * suc (max_height nodes) + height nodes max_price (λ v. minus_pair (price v))
