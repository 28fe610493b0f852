use Rattle.std.proofs.Common.{rules}
use Rattle.network.specs.Gridded.{grid_arcs, grid_arc}
use Rattle.grids.proofs.Counts.{counted}
use Rattle.grids.proofs.asked.GridNetwork.arc.Goals as goal

pub returns-clause-value : goal.returns-clause-value
returns-clause-value c =
    let rows = c.args.self.now.rows in
    let columns = c.args.self.now.columns in
    counted (grid_arc rows columns) (grid_arcs rows columns) c.arc_count.result c.args.arc c.below.result c.map.result _ c.arc_count.ensures c.below.ensures c.map.ensures.cases (λ j x same below made. search rules)
