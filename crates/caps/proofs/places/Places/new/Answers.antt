use Rattle.std.proofs.Common.{rules}
use Rattle.caps.proofs.places.Places.new.Goals as goal

pub returns : goal.returns
returns c = c.in_ok-entries.ensures.items_if_clones_equal (λ y is. search rules)
