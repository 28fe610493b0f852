use Rattle.std.proofs.Common.{sym, subst}
use Rattle.caps.specs.Caps.{IsTable}
use Rattle.caps.proofs.Rows.{table_free}
use Rattle.caps.proofs.table.CapTable.new.Goals as goal

pub invariant_of-result : goal.invariant_of-result
invariant_of-result c = subst IsTable (sym c.in_ok-places.ensures) table_free
