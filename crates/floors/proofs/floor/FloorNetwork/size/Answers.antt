use Rattle.std.proofs.Common.{ap, arith}
use Rattle.std.proofs.lemmas.Int.{ints, to_z-of_z}
use Rattle.network.proofs.Floored.{floored_lawful}
use Rattle.floors.proofs.Leasts.{costs_of, size_is}
use Rattle.floors.proofs.floor.FloorNetwork.size.Goals as goal

pub overflow_add-result : goal.overflow_add-result
overflow_add-result g c =
    let h = floored_lawful (g.N.Network.meaning c.args.self.now.below) (g.met.N.Network.laws c.args.self.now.below)
    in let fixed = ap (λ s. s.fixed.0) c.size-size.ensures.value
    in let cost = (costs_of (g.N.Network.meaning c.args.self.now.below) _ c.least_costs-first.result c.least_costs-first.ensures.value c.size-size.ensures.same).0
    in let near = h.first
    in grind (arith, ints, to_z-of_z)

pub overflow_add-result-2 : goal.overflow_add-result-2
overflow_add-result-2 g c =
    let h = floored_lawful (g.N.Network.meaning c.args.self.now.below) (g.met.N.Network.laws c.args.self.now.below)
    in let fixed = ap (λ s. s.fixed.1) c.size-size.ensures.value
    in let cost = (costs_of (g.N.Network.meaning c.args.self.now.below) _ c.least_costs-first.result c.least_costs-first.ensures.value c.size-size.ensures.same).1
    in let near = h.second
    in grind (arith, ints, to_z-of_z)

pub returns-clause-value : goal.returns-clause-value
returns-clause-value g c =
    let n = g.N.Network.meaning c.args.self.now.below
    in let h = floored_lawful n (g.met.N.Network.laws c.args.self.now.below)
    in let fixed = ap (λ s. s.fixed) c.size-size.ensures.value
    in let cost = costs_of n _ c.least_costs-first.result c.least_costs-first.ensures.value c.size-size.ensures.same
    in size_is n c.size-size.result _ _ c.size-size.ensures.value (grind (arith, ints, to_z-of_z, h.first)) (grind (arith, ints, to_z-of_z, h.second))
