use Rattle.std.proofs.Common.{◌≡◌, ◌-◌, cond, length, take, drop, rules, tests}
use Rattle.std.specs.Char.{is_ascii_digit}
use Rattle.std.proofs.lemmas.Iterator.{YieldsList-from_slice}
use Rattle.std.proofs.lemmas.Iterator.Search.{YieldsList-from_take_while}
use Rattle.std.proofs.lemmas.Iterator.Consumers.{YieldsList-at, count_from_yields_List}
use Rattle.lines.specs.Number.{minus}
use Rattle.lines.proofs.Figures.{figures_are}
use Rattle.lines.proofs.number.Numeral.first_of.Goals as goal

pub returns-clause-digits : goal.returns-clause-digits
returns-clause-digits c =
    let k : c.from.result ≡ cond (minus c.args.bytes.now) 1 0 = search rules in
    figures_are c.args.bytes.now _ _ k
    (count_from_yields_List c.take_while.result _ c.count-len.ensures.ran
    (YieldsList-from_take_while _ is_ascii_digit (YieldsList-at c.take_while.ensures.source (YieldsList-from_slice (take (length c.args.bytes.now - c.from.result) (drop c.from.result c.args.bytes.now)) cc))
    c.take_while.ensures.closure c.take_while.ensures.done (λ x b q k. search (rules, tests))))
