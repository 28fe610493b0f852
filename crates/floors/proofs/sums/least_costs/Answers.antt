use Rattle.std.proofs.Common.{◌+◌, refl, ap, ◌∙◌, arith}
use Rattle.std.specs.List.{slice_get}
use Rattle.std.proofs.lemmas.Int.{ints, to_z-of_z}
use Rattle.floors.proofs.Leasts.{cost_more, cost_near}
use Rattle.floors.proofs.sums.least_costs.Goals as goal

pub overflow_add-first : goal.overflow_add-first
overflow_add-first g c =
    let n = g.N.Network.meaning c.args.network.now
    in let h = g.met.N.Network.laws c.args.network.now
    in let e = c.road_of-road.ensures.value ∙ ap (λ m. slice_get m.roads c.loop-i.i) c.loop-i.invariant.0
    in let more = cost_more (λ r. r.first) n.roads c.loop-i.i c.road_of-road.result e
    in let near = cost_near (λ r. r.first) (λ r. refl) n.roads h.passable _ h.first (c.loop-i.i + 1)
    in grind (arith, ints, to_z-of_z)

pub overflow_add-second : goal.overflow_add-second
overflow_add-second g c =
    let n = g.N.Network.meaning c.args.network.now
    in let h = g.met.N.Network.laws c.args.network.now
    in let e = c.road_of-road.ensures.value ∙ ap (λ m. slice_get m.roads c.loop-i.i) c.loop-i.invariant.0
    in let more = cost_more (λ r. r.second) n.roads c.loop-i.i c.road_of-road.result e
    in let near = cost_near (λ r. r.second) (λ r. refl) n.roads h.passable _ h.second (c.loop-i.i + 1)
    in grind (arith, ints, to_z-of_z)

pub loop-i-preserved : goal.loop-i-preserved
loop-i-preserved g c =
    let n = g.N.Network.meaning c.args.network.now
    in let h = g.met.N.Network.laws c.args.network.now
    in let e = c.road_of-road.ensures.value ∙ ap (λ m. slice_get m.roads c.loop-i.i) c.loop-i.invariant.0
    in let more = cost_more (λ r. r.first) n.roads c.loop-i.i c.road_of-road.result e
    in let more' = cost_more (λ r. r.second) n.roads c.loop-i.i c.road_of-road.result e
    in let near = cost_near (λ r. r.first) (λ r. refl) n.roads h.passable _ h.first (c.loop-i.i + 1)
    in let near' = cost_near (λ r. r.second) (λ r. refl) n.roads h.passable _ h.second (c.loop-i.i + 1)
    in (c.road_of-road.ensures.same ∙ c.loop-i.invariant.0, grind (arith, ints, to_z-of_z), grind (arith, ints, to_z-of_z))
