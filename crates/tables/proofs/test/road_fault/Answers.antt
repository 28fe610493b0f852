use Rattle.std.proofs.Common.{◌≡◌, subst, rules, tests}
use Rattle.std.specs.Iterator.Runs.{ItemsMapTo}
use Rattle.tables.proofs.Faults.{find_mapped}
use Rattle.tables.proofs.test.road_fault.Goals as goal

pub returns : goal.returns
returns c =
    let found = c.find_map.ensures.runs in
    let counted = c.enumerate.ensures.runs found.0 found.0.seen found.1 in
    let source = counted.1.0 in
    let all : source.from.rest.now ≡ c.args.roads.now = cc counted.1.1 in
    find_mapped c.args.nodes c.args.roads.now found.0 source (λ x b q k. search (rules, tests)) counted.0 counted.1.2.0 counted.1.2.1
    (subst (ItemsMapTo source (λ y. y.now)) all (c.iter.ensures.runs source source.seen))
    c.find_map.result
    found.2
