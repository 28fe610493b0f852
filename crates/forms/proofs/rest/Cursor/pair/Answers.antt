use Rattle.std.proofs.Common.{w32, SFits, rules}
use Rattle.std.proofs.lemmas.Int.{to_z-of_z}
use Rattle.forms.specs.Scan.{both}
use Rattle.forms.proofs.Steps.{refused, then, fails}
use Rattle.forms.proofs.rest.Cursor.pair.Goals as goal

pub returns-in_err-byte-clause-reads : goal.returns-in_err-byte-clause-reads
returns-in_err-byte-clause-reads c = refused both _ c.from_residual.result c.from_residual.ensures.1
    c.in_err-byte.ensures

pub returns-in_err-a-clause-reads : goal.returns-in_err-a-clause-reads
returns-in_err-a-clause-reads c = refused both _ c.from_residual-in_err-a.result c.from_residual-in_err-a.ensures.1
    (fails c.in_ok-byte.ensures c.in_err-a.ensures.reads)

pub returns-in_err-byte-2-clause-reads : goal.returns-in_err-byte-2-clause-reads
returns-in_err-byte-2-clause-reads c = refused both _ c.from_residual-in_err-byte-2.result c.from_residual-in_err-byte-2.ensures.1
    (fails (then c.in_ok-byte.ensures c.in_ok-a.ensures.reads) c.in_err-byte-2.ensures)

pub returns-in_err-b-clause-reads : goal.returns-in_err-b-clause-reads
returns-in_err-b-clause-reads c = refused both _ c.from_residual-in_err-b.result c.from_residual-in_err-b.ensures.1
    (fails (then (then c.in_ok-byte.ensures c.in_ok-a.ensures.reads) c.in_ok-byte-2.ensures) c.in_err-b.ensures.reads)

pub returns-in_err-byte-3-clause-reads : goal.returns-in_err-byte-3-clause-reads
returns-in_err-byte-3-clause-reads c = refused both _ c.from_residual-in_err-byte-3.result c.from_residual-in_err-byte-3.ensures.1
    (fails (then (then (then c.in_ok-byte.ensures c.in_ok-a.ensures.reads) c.in_ok-byte-2.ensures) c.in_ok-b.ensures.reads) c.in_err-byte-3.ensures)

pub returns-clause-reads : goal.returns-clause-reads
returns-clause-reads c =
    let f : SFits w32 c.in_ok-a.a = search rules in
    let g : SFits w32 c.in_ok-b.b = search rules in
    simp to_z-of_z (then c.in_ok-byte.ensures (then c.in_ok-a.ensures.reads (then c.in_ok-byte-2.ensures (then c.in_ok-b.ensures.reads c.in_ok-byte-3.ensures))))
