use Rattle.std.proofs.Common.{◌≡◌, take}
use Rattle.loading.proofs.fill.Given as goal

abbrev pub invariant-loop-i : goal.invariant-loop-i
invariant-loop-i g l = (g.N.Network.meaning l.network ≡ g.N.Network.meaning l.initial.network) × (take l.i l.row ≡ take l.i (g.T.Entry.entries (g.N.Network.meaning l.initial.network)))
