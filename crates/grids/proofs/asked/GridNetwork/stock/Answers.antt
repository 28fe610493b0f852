use Rattle.std.proofs.Common.{◌*◌, rules}
use Rattle.network.specs.Gridded.{grid_stock}
use Rattle.grids.proofs.Counts.{counted}
use Rattle.grids.proofs.asked.GridNetwork.stock.Goals as goal

pub returns-clause-value : goal.returns-clause-value
returns-clause-value c =
    let nodes = c.args.self.now.rows * c.args.self.now.columns in
    counted (grid_stock nodes c.args.self.now.chests) nodes c.node_count.result c.args.node c.below.result c.map.result _ c.node_count.ensures c.below.ensures c.map.ensures.cases (λ j x same below made. search rules)
