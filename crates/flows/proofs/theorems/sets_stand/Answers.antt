use Rattle.flows.proofs.Cuts.{unserved_stands}
use Rattle.flows.proofs.theorems.sets_stand.Goals as goal

pub returns : goal.returns
returns c = unserved_stands
