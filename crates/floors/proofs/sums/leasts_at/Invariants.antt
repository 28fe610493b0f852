use Rattle.std.proofs.Common.{◌≡◌, take}
use Rattle.floors.specs.Leasts.{leasts_at}
use Rattle.floors.proofs.sums.leasts_at.Given as goal

abbrev pub invariant-loop-i : goal.invariant-loop-i
invariant-loop-i g l =
    let means = g.N.Network.meaning
    in (means l.network ≡ means l.initial.network) × (l.sum ≡ leasts_at l.end l.node (take l.i (means l.initial.network).roads))
