use Rattle.std.proofs.Common.{w32, SFits, rules}
use Rattle.std.proofs.lemmas.Int.{to_z-of_z}
use Rattle.forms.specs.Form.{road_numbers}
use Rattle.forms.proofs.Steps.{line_fault, line_more, line_done, then, fails}
use Rattle.forms.proofs.form.arc.Goals as goal

pub returns-in_err-tail : goal.returns-in_err-tail
returns-in_err-tail c = line_fault road_numbers _ c.from_residual.result c.from_residual.ensures.1
    c.in_err-tail.ensures

pub returns-in_err-byte : goal.returns-in_err-byte
returns-in_err-byte c = line_fault road_numbers _ c.from_residual-in_err-byte.result c.from_residual-in_err-byte.ensures.1
    (fails c.in_ok-tail.ensures c.in_err-byte.ensures)

pub returns-in_err-least : goal.returns-in_err-least
returns-in_err-least c = line_fault road_numbers _ c.from_residual-in_err-least.result c.from_residual-in_err-least.ensures.1
    (fails (then c.in_ok-tail.ensures c.in_ok-byte.ensures) c.in_err-least.ensures)

pub returns-in_err-byte-2 : goal.returns-in_err-byte-2
returns-in_err-byte-2 c = line_fault road_numbers _ c.from_residual-in_err-byte-2.result c.from_residual-in_err-byte-2.ensures.1
    (fails (then (then c.in_ok-tail.ensures c.in_ok-byte.ensures) c.in_ok-least.ensures) c.in_err-byte-2.ensures)

pub returns-in_err-first : goal.returns-in_err-first
returns-in_err-first c = line_fault road_numbers _ c.from_residual-in_err-first.result c.from_residual-in_err-first.ensures.1
    (fails (then (then (then c.in_ok-tail.ensures c.in_ok-byte.ensures) c.in_ok-least.ensures) c.in_ok-byte-2.ensures) c.in_err-first.ensures)

pub returns-in_err-byte-3 : goal.returns-in_err-byte-3
returns-in_err-byte-3 c = line_fault road_numbers _ c.from_residual-in_err-byte-3.result c.from_residual-in_err-byte-3.ensures.1
    (fails (then (then (then (then c.in_ok-tail.ensures c.in_ok-byte.ensures) c.in_ok-least.ensures) c.in_ok-byte-2.ensures) c.in_ok-first.ensures) c.in_err-byte-3.ensures)

pub returns-in_err-end : goal.returns-in_err-end
returns-in_err-end c = line_more road_numbers c.from_residual-in_err-end.result c.from_residual-in_err-end.ensures.1
    (then (then (then (then (then c.in_ok-tail.ensures c.in_ok-byte.ensures) c.in_ok-least.ensures) c.in_ok-byte-2.ensures) c.in_ok-first.ensures) c.in_ok-byte-3.ensures) c.in_err-end.ensures

pub returns : goal.returns
returns c =
    let f0 : SFits w32 c.in_ok-first.first = search rules in
    let f1 : SFits w32 c.in_ok-first.second = search rules in
    simp to_z-of_z (line_done (then (then (then (then (then c.in_ok-tail.ensures c.in_ok-byte.ensures) c.in_ok-least.ensures) c.in_ok-byte-2.ensures) c.in_ok-first.ensures) c.in_ok-byte-3.ensures) c.in_ok-end.ensures)
