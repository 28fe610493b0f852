use Rattle.std.proofs.Common.{eqb, ap, ◌∙◌, rules, tests}
use Rattle.std.specs.List.{common_prefix_len}
use Rattle.std.proofs.lemmas.Iterator.{YieldsList-from_slice, YieldsList-from_zip}
use Rattle.std.proofs.lemmas.Iterator.Search.{YieldsList-from_take_while}
use Rattle.std.proofs.lemmas.Iterator.Consumers.{YieldsList-at, count_from_yields_List}
use Rattle.lines.proofs.Reach.{agree_zipped}
use Rattle.lines.proofs.word.Word.agreement.Goals as goal

pub returns-clause-value : goal.returns-clause-value
returns-clause-value c =
    count_from_yields_List c.take_while.result _ c.count.ensures.ran
    (YieldsList-from_take_while _ (λ p. eqb p.0 p.1)
    (YieldsList-at c.take_while.ensures.source (YieldsList-from_zip (YieldsList-from_slice c.spelling.result.now cc) (YieldsList-from_slice c.args.form.now cc)))
    c.take_while.ensures.closure c.take_while.ensures.done (λ x b q k. search (rules, tests)))
    ∙ agree_zipped c.spelling.result.now c.args.form.now ∙ ap (λ w. common_prefix_len eqb w c.args.form.now) c.spelling.ensures
