use Rattle.flows.proofs.Certificate.{certificate_stands}
use Rattle.flows.proofs.theorems.certificates_stand.Goals as goal

pub returns : goal.returns
returns c = certificate_stands
