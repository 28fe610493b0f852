use Rattle.std.proofs.Common.{◌+◌, cond, eqb, ap, ◌∙◌, arith}
use Rattle.std.specs.List.{slice_get}
use Rattle.std.proofs.lemmas.Bool.Decides.{nat_tests}
use Rattle.std.proofs.lemmas.List.Sums.{sum_by-take-le}
use Rattle.network.specs.Roads.{end_node}
use Rattle.floors.proofs.Leasts.{leasts_more, leasts_low}
use Rattle.floors.proofs.sums.leasts_at.Goals as goal
use Rattle.floors.proofs.sums.leasts_at.Goals.{then-end_node-node, else-end_node-node}

pub overflow_add-sum : goal.overflow_add-sum
overflow_add-sum g c =
    let n = g.N.Network.meaning c.args.network.now
    in let e = c.road_of-road.ensures.value ∙ ap (λ m. slice_get m.roads c.loop-i.i) c.loop-i.invariant.0
    in let more = leasts_more c.args.end c.args.node n.roads c.loop-i.i c.road_of-road.result e
    in let low = leasts_low c.args.end c.args.node n (g.met.N.Network.laws c.args.network.now)
    in let part = sum_by-take-le (λ r. cond (eqb (end_node c.args.end r) c.args.node) r.least 0) n.roads (c.loop-i.i + 1)
    in grind (arith, nat_tests)

pub loop-i-preserved : goal.loop-i-preserved
loop-i-preserved g c =
    let e = c.road_of-road.ensures.value ∙ ap (λ m. slice_get m.roads c.loop-i.i) c.loop-i.invariant.0
    in let more = leasts_more c.args.end c.args.node (g.N.Network.meaning c.args.network.now).roads c.loop-i.i c.road_of-road.result e
    in (c.road_of-road.ensures.same ∙ c.loop-i.invariant.0, grind (arith, nat_tests))
