use Rattle.std.proofs.Common.{rules}
use Rattle.std.proofs.lemmas.Int.{wraps}
use Rattle.worths.specs.Laws.{pair_eq}
use Rattle.worths.proofs.worth.RankedWorth.add.Goals as goal

pub returns-clause-wraps : goal.returns-clause-wraps
returns-clause-wraps c = pair_eq (search (rules, wraps)) (search (rules, wraps))
