use Rattle.std.proofs.Common.{arith}
use Rattle.std.proofs.lemmas.Int.{ints, to_z-of_z}
use Rattle.lines.proofs.Figures.{continued_small, continued_more}
use Rattle.lines.proofs.number.Numeral.signed.Goals as goal

pub overflow_mul-magnitude : goal.overflow_mul-magnitude
overflow_mul-magnitude c =
    let small = continued_small c.args.self.now.digits.now c.loop-digit.digit-index 6 c.args.self.now.all_digits (omega arith) (omega arith) in
    grind (arith, ints)

pub overflow_add-magnitude : goal.overflow_add-magnitude
overflow_add-magnitude c =
    let small = continued_small c.args.self.now.digits.now c.loop-digit.digit-index 6 c.args.self.now.all_digits (omega arith) (omega arith) in
    let d = c.args.self.now.all_digits c.loop-digit.digit-index (omega arith) in
    grind (arith, ints, to_z-of_z)

pub loop-digit-preserved : goal.loop-digit-preserved
loop-digit-preserved c =
    let small = continued_small c.args.self.now.digits.now c.loop-digit.digit-index 6 c.args.self.now.all_digits (omega arith) (omega arith) in
    let d = c.args.self.now.all_digits c.loop-digit.digit-index (omega arith) in
    let m = continued_more c.args.self.now.digits.now c.loop-digit.digit-index (omega arith) in
    grind (arith, ints, to_z-of_z)
