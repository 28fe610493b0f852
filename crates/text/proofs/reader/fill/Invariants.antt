use Rattle.std.proofs.Common.{◌≡◌, take, map}
use Rattle.text.specs.Drafts.{stock_said}
use Rattle.text.proofs.reader.fill.Given as goal

abbrev pub invariant-loop-i : goal.invariant-loop-i
invariant-loop-i l = take l.i l.row ≡ take l.i (map stock_said l.said)
