use Rattle.std.proofs.Common.{◌≡◌, take, pos}
use Rattle.lines.specs.Number.{continued}
use Rattle.lines.proofs.number.Numeral.signed.Given as goal

abbrev pub invariant-loop-digit : goal.invariant-loop-digit
invariant-loop-digit l = l.magnitude ≡ pos (continued 0 (take l.digit-index l.self.digits.now))
