-- What C is told of a text that was read.
use Rattle.std.specs.Prelude.{◌-◌, ◌^◌, Ok, Err, Result, unwrap_or}
use Rattle.network.specs.Refusals.{number_of, place_of}
use Rattle.network.specs.declared.refusal.Refusal.{Refusal}
use Rattle.text.specs.declared.sizes.Sizes.{Sizes}
use Rattle.bridge.specs.declared.Outcome.{Outcome}

-- the sizes, or the number of the refusal and its place, the greatest number where it has none
abbrev pub outcome_of : Result Sizes Refusal → Outcome
outcome_of (Ok s) = record { refusal = 0; place = 2 ^ 64 - 1; nodes = s.nodes; arcs = s.arcs }
outcome_of (Err e) = record { refusal = number_of e; place = unwrap_or (place_of e) (2 ^ 64 - 1); nodes = 0; arcs = 0 }
