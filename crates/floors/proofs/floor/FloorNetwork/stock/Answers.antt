use Rattle.std.proofs.Common.{rules}
use Rattle.floors.proofs.Leasts.{nth_left}
use Rattle.floors.proofs.floor.FloorNetwork.stock.Goals as goal

pub returns-in_err-stock-clause-value : goal.returns-in_err-stock-clause-value
returns-in_err-stock-clause-value g c = search (rules, nth_left)

pub returns-clause-value : goal.returns-clause-value
returns-clause-value g c = search (rules, nth_left)
