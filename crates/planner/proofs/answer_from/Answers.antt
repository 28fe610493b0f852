use Rattle.std.proofs.Common.{string_bytes, rules}
use Rattle.planner.proofs.Enough.{settled}
use Rattle.planner.proofs.answer_from.Goals as goal

pub returns : goal.returns
returns g c = settled (g.R.Read.remaining c.args.source) c.deref.result.now (string_bytes c.in_ok-answer.field-0) (search rules) c.in_ok-answer.ensures
