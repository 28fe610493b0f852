use Rattle.forms.specs.Scan.{naturals}
use Rattle.forms.proofs.Steps.{line_fault, line_more, line_done, then, fails}
use Rattle.forms.proofs.form.net.Goals as goal

pub returns-in_err-nodes : goal.returns-in_err-nodes
returns-in_err-nodes c = line_fault naturals _ c.from_residual.result c.from_residual.ensures.1
    c.in_err-nodes.ensures.reads

pub returns-in_err-byte : goal.returns-in_err-byte
returns-in_err-byte c = line_fault naturals _ c.from_residual-in_err-byte.result c.from_residual-in_err-byte.ensures.1
    (fails c.in_ok-nodes.ensures.reads c.in_err-byte.ensures)

pub returns-in_err-arcs : goal.returns-in_err-arcs
returns-in_err-arcs c = line_fault naturals _ c.from_residual-in_err-arcs.result c.from_residual-in_err-arcs.ensures.1
    (fails (then c.in_ok-nodes.ensures.reads c.in_ok-byte.ensures) c.in_err-arcs.ensures.reads)

pub returns-in_err-byte-2 : goal.returns-in_err-byte-2
returns-in_err-byte-2 c = line_fault naturals _ c.from_residual-in_err-byte-2.result c.from_residual-in_err-byte-2.ensures.1
    (fails (then (then c.in_ok-nodes.ensures.reads c.in_ok-byte.ensures) c.in_ok-arcs.ensures.reads) c.in_err-byte-2.ensures)

pub returns-in_err-end : goal.returns-in_err-end
returns-in_err-end c = line_more naturals c.from_residual-in_err-end.result c.from_residual-in_err-end.ensures.1
    (then (then (then c.in_ok-nodes.ensures.reads c.in_ok-byte.ensures) c.in_ok-arcs.ensures.reads) c.in_ok-byte-2.ensures) c.in_err-end.ensures

pub returns : goal.returns
returns c = line_done (then (then (then c.in_ok-nodes.ensures.reads c.in_ok-byte.ensures) c.in_ok-arcs.ensures.reads) c.in_ok-byte-2.ensures) c.in_ok-end.ensures
