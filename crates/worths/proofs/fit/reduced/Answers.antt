use Rattle.worths.specs.Kinds.{plus_pair, minus_pair}
use Rattle.worths.proofs.Ranges.{exact_from_wraps, wrapped_plus}
use Rattle.worths.proofs.fit.reduced.Goals as goal

pub returns-clause-wraps : goal.returns-clause-wraps
returns-clause-wraps g c =
    let value = g.W.Worth.value in
    let once = wrapped_plus (plus_pair (value c.entry.result) (value c.entry-tail.result)) (minus_pair (value c.entry-head.result)) in
    cc (once, c.at-road.ensures, c.end_node.ensures, c.end_node-2.ensures, c.entry.ensures, c.entry-tail.ensures, c.entry-head.ensures, c.add.ensures.wraps, c.negate.ensures.wraps, c.add-2.ensures.wraps)

pub returns-clause-exact : goal.returns-clause-exact
returns-clause-exact g c = exact_from_wraps _ _ (returns-clause-wraps g c)
