-- The leasts of the arcs that have a node at one of their ends.
use Rattle.std.specs.Prelude.{ℕ, cond, List, sum_by, ◌==◌}
use Rattle.network.specs.Roads.{end_node}
use Rattle.network.specs.declared.road.End.{End}
use Rattle.network.specs.declared.road.Road.{Road}

-- at `Tail` what leaves the node, at `Head` what arrives there
abbrev pub leasts_at : End → ℕ → List Road → ℕ
leasts_at end v roads = sum_by (λ r. cond (end_node end r == v) r.least 0) roads
