use Rattle.std.proofs.Common.{◌-◌, length}
use Rattle.text.proofs.Fronts.{Reading}
use Rattle.text.proofs.draft.Draft.take_lines.Given as goal

abbrev pub invariant-loop-place : goal.invariant-loop-place
invariant-loop-place l = Reading l.text l.initial.self l.self l.place

abbrev pub decreases-loop-place : goal.decreases-loop-place
decreases-loop-place l = length l.text - l.place
