-- Full lists of networks, and of networks under layers.
use Rattle.std.proofs.Common.{refl}
use Rattle.network.specs.Exchanged.{exchanged}
use Rattle.network.specs.Floored.{floored}
use Rattle.network.specs.Limits.{max_reach}
use Rattle.network.specs.Net.{Net}
use Rattle.plane.proofs.Exchanges.{same_of, exchange_of}
use Rattle.plane.proofs.Facts.{facts_of}
use Rattle.plane.proofs.Finite.{exists_of, empty_of}
use Rattle.plane.proofs.Fronts.{unique_of}
use Rattle.plane.proofs.Neighbours.{turns_of}
use Rattle.plane.specs.Points.{Point, swap}
use Rattle.flows.specs.Facts.{ReachStands, CornersStand, ListExists, ListUnique, EmptyIsNoFlow, NeighboursTurn}
use Rattle.flows.specs.Flows.{Points, HasNoFlow, point}
use Rattle.flows.specs.Layers.{ExchangeStands, ExchangeNoFlow, FloorStands, FloorNoFlow}
use Rattle.flows.proofs.Layers.{exchange_points, exchange_points_back, floor_points, floor_points_back}
use Rattle.flows.proofs.Listing.{points_listed}
use Rattle.flows.proofs.Prices.{points_within}

pub reach_stands : ReachStands
reach_stands = points_within

pub corners_stand : CornersStand
corners_stand n m = facts_of (Points n) (Points m)

pub list_exists : ListExists
list_exists n ok = exists_of (Points n) max_reach (points_within n ok) (points_listed n)

pub list_unique : ListUnique
list_unique n = unique_of (Points n)

pub neighbours_turn : NeighboursTurn
neighbours_turn n ok = turns_of (Points n) max_reach (points_within n ok) (points_listed n)

-- a flow has a point, and a point is of a flow
no_point : (n : Net) → HasNoFlow n → (z : Point) → Points n z → ⊥
no_point n none z h = none h.flow h.flows

no_flow : (n : Net) → ((z : Point) → Points n z → ⊥) → HasNoFlow n
no_flow n none x f = none (point n x) (record { flow = x; flows = f; here = refl })

pub empty_is_no_flow : EmptyIsNoFlow
empty_is_no_flow n ok =
    let e = empty_of (Points n) max_reach (points_within n ok) (points_listed n) in
    ((λ full. no_flow n (e.0 full)), (λ none. e.1 (no_point n none)))

pub exchange_stands : ExchangeStands
exchange_stands n ok = exchange_of (Points n) (Points (exchanged n)) (exchange_points n) (exchange_points_back n)

pub exchange_no_flow : ExchangeNoFlow
exchange_no_flow n ok =
    ((λ none. no_flow (exchanged n) (λ z h. no_point n none (swap z) (exchange_points_back n z h))), (λ none. no_flow n (λ z h. no_point (exchanged n) none (swap z) (exchange_points n z h))))

pub floor_stands : FloorStands
floor_stands n ok = same_of (Points n) (Points (floored n)) (floor_points n ok) (floor_points_back n ok)

pub floor_no_flow : FloorNoFlow
floor_no_flow n ok =
    ((λ none. no_flow (floored n) (λ z h. no_point n none z (floor_points_back n ok z h))), (λ none. no_flow n (λ z h. no_point (floored n) none z (floor_points n ok z h))))
