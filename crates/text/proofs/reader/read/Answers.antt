use Rattle.std.proofs.Common.{refl, inl, inr}
use Rattle.text.specs.Refused.{no_first, bad_first, short_rows}
use Rattle.text.proofs.First.{begun_first, stopped_draft}
use Rattle.text.proofs.Outcomes.{later, refusal, taken}
use Rattle.text.proofs.Settled.{settled}
use Rattle.text.proofs.reader.read.Goals as goal
use Rattle.text.proofs.reader.read.Goals.{then-roads-sizes-via-then-roads-sizes, then-roads-sizes-via-else-roads-sizes+then-stocks-sizes}

pub returns-in_err-form : goal.returns-in_err-form
returns-in_err-form c =
    let p = c.in_err-form.ensures in
    refusal c.args.text.now c.args.roads.now c.args.stocks.now c.from_residual.result _ c.from_residual.ensures.1 (no_first c.if-text-gt-MAX_TEXT.false p.1 p.0)

pub returns-in_err-sizes : goal.returns-in_err-sizes
returns-in_err-sizes c = refusal c.args.text.now c.args.roads.now c.args.stocks.now c.from_residual-in_err-sizes.result _ c.from_residual-in_err-sizes.ensures.1
    (bad_first c.if-text-gt-MAX_TEXT.false c.in_ok-form.form.now c.in_ok-form.ensures c.in_err-sizes.ensures)

pub returns-then-roads-sizes : goal.returns-then-roads-sizes
returns-then-roads-sizes c =
    let f = c.in_ok-sizes.ensures in
    settled _ _ _ _ _ _ (
      short_rows c.if-text-gt-MAX_TEXT.false _ _ _
          (begun_first c.args.text.now c.in_ok-form.form.now _ _ c.in_ok-form.ensures f.0 f.1)
          (elim c.then-roads-sizes.branch [ then-roads-sizes-via-then-roads-sizes w ↦ inl w.if-roads-sizes.true | then-roads-sizes-via-else-roads-sizes+then-stocks-sizes w ↦ inr w.if-stocks-sizes.true ])
          (refl, refl),
      refl,
      refl,
    )

pub returns-in_err-take_lines : goal.returns-in_err-take_lines
returns-in_err-take_lines c = refusal c.args.text.now c.args.roads.now c.args.stocks.now c.from_residual-in_err-take_lines.result _ c.from_residual-in_err-take_lines.ensures.1
    (later c.args.text.now _ _ _ _ _ c.if-text-gt-MAX_TEXT.false c.if-roads-sizes.false c.if-stocks-sizes.false
    (stopped_draft c.args.text.now c.new-draft.result c.in_ok-sizes.sizes _ c.new-draft.ensures.sizes c.in_err-take_lines.ensures))

pub returns : goal.returns
returns c =
    let done = c.in_ok-take_lines.ensures in
    settled c.args.text.now c.args.roads.now c.args.stocks.now _ _ _
    (taken c.args.text.now c.new-draft.result c.take_lines.new.self c.in_ok-sizes.sizes c.args.roads.now _ c.args.stocks.now _
    c.if-text-gt-MAX_TEXT.false c.if-roads-sizes.false c.if-stocks-sizes.false c.new-draft.ensures.sizes done.0 done.1 c.copy_into.ensures.roads c.copy_into.ensures.stocks)
