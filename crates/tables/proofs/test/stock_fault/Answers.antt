use Rattle.std.proofs.Common.{◌≡◌, ap, ◌∙◌, rules, tests}
use Rattle.std.specs.List.{position}
use Rattle.std.specs.Option.{option_map}
use Rattle.std.proofs.lemmas.Iterator.{YieldsList-from_slice}
use Rattle.std.proofs.lemmas.Iterator.Search.{position_from_yields_List}
use Rattle.network.specs.declared.refusal.Refusal.TheVariants.{Number}
use Rattle.tables.proofs.Faults.{far, stock_first}
use Rattle.tables.proofs.test.stock_fault.Goals as goal

pub returns : goal.returns
returns c =
    let first : c.position.result ≡ position far c.args.stocks.now = position_from_yields_List far _ _ c.position.result c.position.ensures.ran (YieldsList-from_slice c.args.stocks.now cc) (λ x b q k. search (rules, tests)) in
    let named : c.map.result ≡ option_map Number c.position.result = search rules in
    named ∙ ap (option_map Number) first ∙ stock_first c.args.stocks.now
