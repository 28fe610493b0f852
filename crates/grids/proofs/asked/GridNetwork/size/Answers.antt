use Rattle.std.proofs.Common.{refl, rules}
use Rattle.std.proofs.lemmas.List.FromFn.{length-map-range_with_len}
use Rattle.grids.proofs.asked.GridNetwork.size.Goals as goal

pub returns : goal.returns
returns c = record { value = simp length-map-range_with_len (search rules); same = refl }
