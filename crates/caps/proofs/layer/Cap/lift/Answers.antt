use Rattle.std.proofs.Common.{sym, subst}
use Rattle.caps.specs.Caps.{Recapped}
use Rattle.caps.proofs.Changes.{kept, cleared}
use Rattle.caps.proofs.layer.Cap.lift.Goals as goal

pub returns-in-Some-clause-table : goal.returns-in-Some-clause-table
returns-in-Some-clause-table g c =
    let ps = c.args.self.now.table in
    let roads = (g.N.Network.meaning c.args.self.now.below).roads in
    let road = c.args.road in
    subst (λ left. Recapped ps left roads c.args.arc road.most road) (sym c.clear.ensures.value)
    (cleared ps roads c.args.arc road c.in-Some.place c.in-Some.ensures.kept.once (sym c.requires) (sym c.in-Some.ensures.value))

pub returns-in_default-clause-table : goal.returns-in_default-clause-table
returns-in_default-clause-table g c =
    kept c.args.self.now.table (g.N.Network.meaning c.args.self.now.below).roads c.args.arc c.args.road (sym c.requires) (sym c.in_default.ensures.value)
