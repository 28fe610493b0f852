use Rattle.std.proofs.Common.{w32, SFits, rules}
use Rattle.std.proofs.lemmas.Int.{to_z-of_z}
use Rattle.forms.specs.Form.{stock_numbers}
use Rattle.forms.proofs.Steps.{line_fault, line_more, line_done, then, fails}
use Rattle.forms.proofs.form.stock.Goals as goal

pub returns-in_err-node-clause-reads : goal.returns-in_err-node-clause-reads
returns-in_err-node-clause-reads c = line_fault stock_numbers _ c.from_residual.result c.from_residual.ensures.1
    c.in_err-node.ensures.reads

pub returns-in_err-byte-clause-reads : goal.returns-in_err-byte-clause-reads
returns-in_err-byte-clause-reads c = line_fault stock_numbers _ c.from_residual-in_err-byte.result c.from_residual-in_err-byte.ensures.1
    (fails c.in_ok-node.ensures.reads c.in_err-byte.ensures)

pub returns-in_err-amount-clause-reads : goal.returns-in_err-amount-clause-reads
returns-in_err-amount-clause-reads c =
    let read = rw (c.around.ensures.low, c.around.ensures.high) at c.in_err-amount.ensures.reads in
    line_fault stock_numbers _ c.from_residual-in_err-amount.result c.from_residual-in_err-amount.ensures.1
    (fails (then c.in_ok-node.ensures.reads c.in_ok-byte.ensures) read)

pub returns-in_err-byte-2-clause-reads : goal.returns-in_err-byte-2-clause-reads
returns-in_err-byte-2-clause-reads c =
    let read = rw (c.around.ensures.low, c.around.ensures.high) at c.in_ok-amount.ensures.reads in
    line_fault stock_numbers _ c.from_residual-in_err-byte-2.result c.from_residual-in_err-byte-2.ensures.1
    (fails (then (then c.in_ok-node.ensures.reads c.in_ok-byte.ensures) read) c.in_err-byte-2.ensures)

pub returns-in_err-end-clause-reads : goal.returns-in_err-end-clause-reads
returns-in_err-end-clause-reads c =
    let read = rw (c.around.ensures.low, c.around.ensures.high) at c.in_ok-amount.ensures.reads in
    line_more stock_numbers c.from_residual-in_err-end.result c.from_residual-in_err-end.ensures.1
    (then (then (then c.in_ok-node.ensures.reads c.in_ok-byte.ensures) read) c.in_ok-byte-2.ensures) c.in_err-end.ensures

pub returns-clause-reads : goal.returns-clause-reads
returns-clause-reads c =
    let read = rw (c.around.ensures.low, c.around.ensures.high) at c.in_ok-amount.ensures.reads in
    let f0 : SFits w32 c.in_ok-amount.amount = search rules in
    simp to_z-of_z (line_done (then (then (then c.in_ok-node.ensures.reads c.in_ok-byte.ensures) read) c.in_ok-byte-2.ensures) c.in_ok-end.ensures)
