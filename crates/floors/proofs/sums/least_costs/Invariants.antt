use Rattle.std.proofs.Common.{◌≡◌, take}
use Rattle.network.specs.Floored.{least_cost}
use Rattle.floors.proofs.sums.least_costs.Given as goal

abbrev pub invariant-loop-i : goal.invariant-loop-i
invariant-loop-i g l =
    let means = g.N.Network.meaning
    in let passed = take l.i (means l.initial.network).roads
    in (means l.network ≡ means l.initial.network) × (l.first ≡ least_cost (λ r. r.first) passed) × (l.second ≡ least_cost (λ r. r.second) passed)
