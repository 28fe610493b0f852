use Rattle.std.proofs.Common.{string_bytes, refl, ap, ◌∙◌}
use Rattle.std.proofs.lemmas.Result.{IfOk-weaker}
use Rattle.account.specs.Lines.{account_lines}
use Rattle.planner.proofs.Told.{accounted, declined}
use Rattle.planner.proofs.answer.Goals as goal

pub returns-in-Ok : goal.returns-in-Ok
returns-in-Ok c = IfOk-weaker c.account_lines.result _ _
    (λ s e. accounted c.args.text.now _ c.read.new.roads _ c.read.new.stocks c.in-Ok.field-0 (string_bytes s) refl refl c.in-Ok.ensures (e ∙ ap account_lines c.account_of.ensures))
    c.account_lines.ensures

pub returns-in-Err : goal.returns-in-Err
returns-in-Err c = IfOk-weaker c.refusal_line.result _ _
    (λ s e. declined c.args.text.now _ c.read.new.roads _ c.read.new.stocks c.in-Err.refusal (string_bytes s) refl refl c.in-Err.ensures e)
    c.refusal_line.ensures
