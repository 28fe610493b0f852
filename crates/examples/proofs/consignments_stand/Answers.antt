use Rattle.examples.proofs.Evidence.{consignments_stand}
use Rattle.examples.proofs.consignments_stand.Goals as goal

pub returns : goal.returns
returns c = consignments_stand
