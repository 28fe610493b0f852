use Rattle.std.proofs.Common.{◌≡◌, ◌∙◌, ap, arith}
use Rattle.std.proofs.lemmas.Int.{ints, to_z-of_z}
use Rattle.network.specs.declared.road.End.TheVariants.{Tail, Head}
use Rattle.floors.specs.Leasts.{leasts_at}
use Rattle.floors.proofs.Leasts.{stock_near, leasts_low}
use Rattle.floors.proofs.sums.stock_left.Given as given
use Rattle.floors.proofs.sums.stock_left.Goals as goal

-- what leaves and what arrives, said of the network as it came
moved : (g : given.Over) (c : goal.After-from-2 g)
    → (c.leasts_at-gone.result ≡ leasts_at Tail c.args.node (g.N.Network.meaning c.args.network.now).roads) × (c.leasts_at-come.result ≡ leasts_at Head c.args.node (g.N.Network.meaning c.args.network.now).roads)
moved g c = (
  c.leasts_at-gone.ensures.value ∙ ap (λ m. leasts_at Tail c.args.node m.roads) c.size-arcs.ensures.same,
  c.leasts_at-come.ensures.value ∙ ap (λ m. leasts_at Head c.args.node m.roads) (c.leasts_at-gone.ensures.same ∙ c.size-arcs.ensures.same),
)

pub overflow_add-result : goal.overflow_add-result
overflow_add-result g c =
    let n = g.N.Network.meaning c.args.network.now
    in let h = g.met.N.Network.laws c.args.network.now
    in let parts = moved g c
    in let near = stock_near n h c.args.node c.args.stock c.requires
    in let out = leasts_low Tail c.args.node n h
    in let back = leasts_low Head c.args.node n h
    in grind (arith, ints, to_z-of_z)

pub returns-clause-value : goal.returns-clause-value
returns-clause-value g c =
    let n = g.N.Network.meaning c.args.network.now
    in let h = g.met.N.Network.laws c.args.network.now
    in let parts = moved g c
    in let near = stock_near n h c.args.node c.args.stock c.requires
    in let out = leasts_low Tail c.args.node n h
    in let back = leasts_low Head c.args.node n h
    in grind (arith, ints, to_z-of_z)
