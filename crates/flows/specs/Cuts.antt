-- Sets of nodes that no flow can serve.
use Rattle.std.specs.Prelude.{ℕ, Bool, cond, not, ◌&&◌, ◌⊎◌, List, length, ℤ, pos, ◌-ℤ◌, ◌<ℤ◌}
use Rattle.numbers.specs.Totals.{total}
use Rattle.network.specs.Arcs.{road_at, stock_at}
use Rattle.network.specs.Net.{Net, Lawful}
use Rattle.network.specs.declared.road.Road.{Road}
use Rattle.worths.specs.Kinds.{plain, sum}
use Rattle.flows.specs.Flows.{HasNoFlow}

-- a number of each arc, added up over the arcs that leave the set, and over those that enter it
abbrev pub over_leaving : (Road → ℕ) → List Road → (ℕ → Bool) → ℕ
over_leaving f roads S = total (length roads) (λ a. cond (S (road_at roads a).tail && not (S (road_at roads a).head)) (f (road_at roads a)) 0)

abbrev pub over_entering : (Road → ℕ) → List Road → (ℕ → Bool) → ℕ
over_entering f roads S = total (length roads) (λ a. cond (not (S (road_at roads a).tail) && S (road_at roads a).head) (f (road_at roads a)) 0)

-- the stock of the set
abbrev pub stock_in : List ℤ → (ℕ → Bool) → ℤ
stock_in stocks S = sum plain (length stocks) (λ v. cond (S v) (stock_at stocks v) (pos 0))

abbrev pub most_of : Road → ℕ
most_of r = r.most

abbrev pub least_of : Road → ℕ
least_of r = r.least

-- it offers more than can leave, or so little that not even the leasts can
abbrev pub OffersTooMuch : Net → (ℕ → Bool) → Type 0
OffersTooMuch n S = (pos (over_leaving most_of n.roads S) -ℤ pos (over_entering least_of n.roads S)) <ℤ stock_in n.stocks S

abbrev pub OffersTooLittle : Net → (ℕ → Bool) → Type 0
OffersTooLittle n S = stock_in n.stocks S <ℤ (pos (over_leaving least_of n.roads S) -ℤ pos (over_entering most_of n.roads S))

abbrev pub Unserved : Net → (ℕ → Bool) → Type 0
Unserved n S = OffersTooMuch n S ⊎ OffersTooLittle n S

abbrev pub UnservedStands : Type 0
UnservedStands = (n : Net) → Lawful n → (S : ℕ → Bool) → Unserved n S → HasNoFlow n
