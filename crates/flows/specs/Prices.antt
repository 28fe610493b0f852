-- What prices that fit a flow show.
use Rattle.std.specs.Prelude.{◌≡◌, ℕ, T, List, ℤ, pos, ◌+ℤ◌, ◌*ℤ◌, ◌≤ℤ◌, ◌<ℤ◌}
use Rattle.network.specs.Arcs.{road_at}
use Rattle.network.specs.Net.{Net, Lawful, arc_count}
use Rattle.worths.specs.Kinds.{Kind, plain, ranked, times, sum, Pair}
use Rattle.worths.specs.Fit.{Fits}
use Rattle.plane.specs.Points.{Point, first, second, weigh, Least, Lightest}
use Rattle.flows.specs.Flows.{Flow, point, Points, on}

-- what a flow is worth, for a worth of each arc
abbrev pub worth_of : (K : Kind) → Net → (ℕ → K.Worth) → List ℕ → K.Worth
worth_of K n worth x = sum K (arc_count n) (λ a. times K (on x a) (worth a))

-- no flow is worth less
abbrev pub BestOf : Kind → Type 0
BestOf K = (n : Net) → Lawful n → (worth price : ℕ → K.Worth) (x y : List ℕ) → Flow n x → Flow n y
    → Fits K n.roads worth price x → T (K.at_most (worth_of K n worth x) (worth_of K n worth y))

-- they fit every flow that is worth as much
abbrev pub SharedOf : Kind → Type 0
SharedOf K = (n : Net) → Lawful n → (worth price : ℕ → K.Worth) (x y : List ℕ) → Flow n x → Flow n y
    → Fits K n.roads worth price x → worth_of K n worth x ≡ worth_of K n worth y → Fits K n.roads worth price y

-- the worth of each arc at weights (p, q)
abbrev pub weighed : Net → ℤ → ℤ → ℕ → ℤ
weighed n p q a = p *ℤ (road_at n.roads a).first +ℤ q *ℤ (road_at n.roads a).second

-- the ranked worths by which corners are found: (first, second), (second, first), (weight, first) and (weight, second)
abbrev pub by_first : Net → ℕ → Pair
by_first n a = ((road_at n.roads a).first, (road_at n.roads a).second)

abbrev pub by_second : Net → ℕ → Pair
by_second n a = ((road_at n.roads a).second, (road_at n.roads a).first)

abbrev pub by_weight_first : Net → ℤ → ℤ → ℕ → Pair
by_weight_first n p q a = (weighed n p q a, (road_at n.roads a).first)

abbrev pub by_weight_second : Net → ℤ → ℤ → ℕ → Pair
by_weight_second n p q a = (weighed n p q a, (road_at n.roads a).second)

-- all four at once: one weighing after another
abbrev pub weighed_twice : Net → ℤ → ℤ → ℤ → ℤ → ℕ → Pair
weighed_twice n p q r s a = (weighed n p q a, weighed n r s a)

-- prices that fit at (p, q) show that no point is lighter there
abbrev pub LightestByPrices : Type 0
LightestByPrices = (n : Net) → Lawful n → (p q : ℤ) (price : ℕ → ℤ) (x : List ℕ) → Flow n x → Fits plain n.roads (weighed n p q) price x
    → (z : Point) → Points n z → weigh p q (point n x) ≤ℤ weigh p q z

-- they fit every flow whose point weighs as much
abbrev pub FitWhereAsLight : Type 0
FitWhereAsLight = (n : Net) → Lawful n → (p q : ℤ) (price : ℕ → ℤ) (x y : List ℕ) → Flow n x → Flow n y → Fits plain n.roads (weighed n p q) price x
    → weigh p q (point n x) ≡ weigh p q (point n y) → Fits plain n.roads (weighed n p q) price y

-- ranked prices that fit show the lexicographic minimum by two weights
abbrev pub MinimumByPrices : Type 0
MinimumByPrices = (n : Net) → Lawful n → (p q r s : ℤ) (price : ℕ → Pair) (x : List ℕ) → Flow n x → Fits ranked n.roads (weighed_twice n p q r s) price x
    → Least (Points n) (weigh p q) (weigh r s) (point n x)

-- they fit every flow of that point
abbrev pub FitAtPoint : Type 0
FitAtPoint = (n : Net) → Lawful n → (p q r s : ℤ) (price : ℕ → Pair) (x y : List ℕ) → Flow n x → Flow n y → Fits ranked n.roads (weighed_twice n p q r s) price x
    → point n x ≡ point n y → Fits ranked n.roads (weighed_twice n p q r s) price y

-- so the minima by which corners are found come with prices
abbrev pub OpeningByPrices : Type 0
OpeningByPrices = (n : Net) → Lawful n → (price : ℕ → Pair) (x : List ℕ) → Flow n x → Fits ranked n.roads (by_first n) price x → Least (Points n) first second (point n x)

abbrev pub ClosingByPrices : Type 0
ClosingByPrices = (n : Net) → Lawful n → (price : ℕ → Pair) (x : List ℕ) → Flow n x → Fits ranked n.roads (by_second n) price x → Least (Points n) second first (point n x)

abbrev pub SearchingByPrices : Type 0
SearchingByPrices = (n : Net) → Lawful n → (p q : ℤ) (price : ℕ → Pair) (x : List ℕ) → Flow n x → Fits ranked n.roads (by_weight_second n p q) price x → Least (Points n) (weigh p q) second (point n x)

-- what Weigh gives: by (weight, first), or by (weight, second) where the second cost weighs nothing
abbrev pub WeighingByPrices : Type 0
WeighingByPrices = (n : Net) → Lawful n → (p q : ℤ) (price : ℕ → Pair) (x : List ℕ) → pos 0 <ℤ q → Flow n x → Fits ranked n.roads (by_weight_first n p q) price x → Lightest (Points n) p q (point n x)

abbrev pub WeighingFirstByPrices : Type 0
WeighingFirstByPrices = (n : Net) → Lawful n → (p : ℤ) (price : ℕ → Pair) (x : List ℕ) → pos 0 <ℤ p → Flow n x → Fits ranked n.roads (by_weight_second n p (pos 0)) price x → Lightest (Points n) p (pos 0) (point n x)
