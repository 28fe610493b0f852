use Rattle.examples.proofs.Shortcuts.{turned_round_fails, without_tie_break_fails}
use Rattle.examples.proofs.shortcuts_fail.Goals as goal

pub returns : goal.returns
returns c = record { turned_round = turned_round_fails; no_tie_break = without_tie_break_fails }
