use Rattle.plane.proofs.Facts.{facts_of}
use Rattle.plane.proofs.corners_stand.Goals as goal

pub returns : goal.returns
returns g c = facts_of g.A.Plane.points g.B.Plane.points
