use Rattle.std.proofs.Common.{rules}
use Rattle.caps.proofs.Rows.{cap_found}
use Rattle.caps.proofs.table.CapTable.amount.Goals as goal

pub returns-in_err-place : goal.returns-in_err-place
returns-in_err-place c = let cap = cap_found c.args.self.now c.args.arc in search (rules, cap)

pub returns : goal.returns
returns c = let cap = cap_found c.args.self.now c.args.arc in search (rules, cap)
