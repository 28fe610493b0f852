use Rattle.flows.proofs.Duality.{best, shared}
use Rattle.flows.proofs.theorems.prices_stand.Goals as goal

pub returns : goal.returns
returns g c = let m = g.K.Weighed in record { best = best m.ordered; shared = shared m.ordered }
