use Rattle.std.proofs.Common.{pos, ◌∙◌, rules, int_lt}
use Rattle.std.proofs.lemmas.Iterator.{YieldsList-from_slice}
use Rattle.std.proofs.lemmas.Iterator.Consumers.{count_from_yields_List, YieldsList-from_filter}
use Rattle.std.proofs.lemmas.List.Sums.{length-filter}
use Rattle.network.specs.Net.{span}
use Rattle.account.specs.Accounts.{surplus, lack}
use Rattle.account.proofs.sums.account_of.Goals as goal

pub returns : goal.returns
returns c =
    let offered = c.total.ensures surplus (λ x n p. search rules) in
    let wanted = c.total-2.ensures lack (λ x n p. search rules) in
    let first = c.total-3.ensures (span (λ r. r.first)) (λ x n p. search rules) in
    let second = c.total-4.ensures (span (λ r. r.second)) (λ x n p. search rules) in
    let offering = count_from_yields_List _ _ c.count.ensures.ran (YieldsList-from_filter _ (λ z. int_lt (pos 0) z) (YieldsList-from_slice c.args.stocks.now cc) c.filter.ensures.closure (λ x b q k. search rules)) ∙ length-filter _ c.args.stocks.now in
    let wanting = count_from_yields_List _ _ c.count-2.ensures.ran (YieldsList-from_filter _ (λ z. int_lt z (pos 0)) (YieldsList-from_slice c.args.stocks.now cc) c.filter-2.ensures.closure (λ x b q k. search rules)) ∙ length-filter _ c.args.stocks.now in
    cc
