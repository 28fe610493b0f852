use Rattle.std.proofs.Common.{◌≡◌, ℕ, ◌<◌, false, None, get_or}
use Rattle.caps.specs.Caps.{idle}
use Rattle.caps.proofs.asks.idle_place.Given as goal

abbrev pub invariant-loop-place : goal.invariant-loop-place
invariant-loop-place g l =
    let means = g.N.Network.meaning in
    (means l.below ≡ means l.initial.below) × ((k : ℕ) → k < l.place → idle (means l.initial.below).roads (get_or l.table k None) ≡ false)
