use Rattle.std.proofs.Common.{max, ◌∙◌, rules, tests}
use Rattle.std.proofs.lemmas.Iterator.{YieldsList-from_slice}
use Rattle.std.proofs.lemmas.Iterator.Consumers.{fold_from_yields_List}
use Rattle.lines.specs.Word.{agree}
use Rattle.lines.proofs.Reach.{furthest_folded, furthest_within}
use Rattle.lines.proofs.word.furthest.Goals as goal

pub returns : goal.returns
returns c =
    let e = fold_from_yields_List _ (λ far w. max far (agree w c.args.form.now)) 0 c.fold.result c.fold.ensures.ran (YieldsList-from_slice c.args.words.now cc) (λ a x b q k. search (rules, tests)) ∙ furthest_folded c.args.form.now c.args.words.now in
    record { value = e; bound = rw e (furthest_within c.args.form.now c.args.words.now) }
